-- The letter's sentences hold of the plain register: by induction over the calls, its rows are all that stand, and the
-- tallies beside them the history's.
use Prim.Native.Nat.{ℕ}
use mathlib.Core.Bool.{Bool, true, false, not, cond, and-true}
use mathlib.Core.List.{List, [], ◌∷◌, ◌++◌, append_assoc, append-nil, Memᴰ}
use mathlib.Core.Logic.{inl, inr, ⊎_elim, ◌↔◌}
use mathlib.Core.Path.{◌≡◌, refl, sym, ap, ap₂, subst, ◌∙◌}
use lib.Dec.{eqb}
use native.Mathlib.Omega.{arith}
use borrow.Author.Tests.{eqb-true, eqb-false, eq-eqb, ne_eqb}
use Rattle.refusals.specs.Refusals.{other_origin}
use Rattle.register.specs.declared.Record.{Record}
use Rattle.register.specs.declared.Member.{Member}
use Rattle.register.specs.declared.Reading.{Reading}
use Rattle.register.specs.declared.Opening.{Opening}
use Rattle.register.specs.Register.{Rows, Call, filter, has_number, is_other_stream, answer, fresh_at}
use Rattle.register.specs.Register.{any, accepted, after, answers}
use Rattle.register.specs.Tallies.{Members, records_of, raised, is_under, tally_in, tally_after, members_after}
use Rattle.register.specs.Tallies.{members_after_all}
use Rattle.register.specs.Letter.{got, History, history, made_in, OfEachCall, OtherStream, Ends, Stands, AreAll}
use Rattle.register.specs.Letter.{HeldElsewhere, lines_of, NoneOf, MeansBehind, Means, FromTwin, TwinGets}
use Rattle.register.specs.Letter.{TallyIs, tallied, TwinAltersTallyAlone, Letter}
use Rattle.register.proofs.Rows.{clash, kept_member, member_kept}
use Rattle.register.proofs.Permuted.{unique-after}
use Rattle.register.proofs.Tallies.{Kept, kept_none, kept_after, rows-after, members-append, tally_after_lem}
use Rattle.register.proofs.Tallies.{number_of_row}
use Rattle.register.proofs.Letter.Lines.{Tells, tells_equal, tells_not, stable}
use Rattle.register.proofs.Letter.Members.{no_cons, each_none, each_more, StandsAfter, stands_more, OwnOrOther}
use Rattle.register.proofs.Letter.Members.{member_renewed}
use Rattle.register.proofs.Letter.Tests.{tells_other_stream, tells_fresh, answer_means}
use Rattle.register.proofs.Letter.Tallies.{TalliesOfHistory, tallied_more}

-- ---- the rows that a call leaves

module _ (o : Opening) (h : History) (rows : Rows) (all : AreAll o h rows) where
  -- an accepted call leaves the rows that then stand
  accepted_stand : (call : Call) (y : Record) → Memᴰ y (accepted o rows call) ↔ StandsAfter o h (got call 0) y
  accepted_stand (Call.report x at) y =
      let renews : _ = member_renewed x y rows all.unique in (
        λ m. ⊎_elim anew still (renews.0 m),
        λ s. renews.1 (⊎_elim same other s),
      )
    where
      anew : y ≡ x → StandsAfter o h (got (Call.report x at) 0) y
      anew e = inl (at, cc)

      still : Memᴰ y rows × (y.source ≡ x.source → ⊥) → StandsAfter o h (got (Call.report x at) 0) y
      still m = inr ((all.those y).0 m.0, λ ends. m.1 (sym ends.0))

      same : (at' : Reading) × (got (Call.report x at) 0 ≡ got (Call.report y at') 0) → OwnOrOther x y rows
      same by = let told : got (Call.report x at) 0 ≡ got (Call.report y by.0) 0 = by.1 in inl (cc)

      other : Stands o h y × (Ends o y (got (Call.report x at) 0) → ⊥) → OwnOrOther x y rows
      other s = inr ((all.those y).1 s.0, λ e. s.1 (sym e, refl))
  accepted_stand (Call.farewell source origin) y = (
    λ m. let kept : _ = kept_member other y rows m in
        inr ((all.those y).0 kept.1, λ ends. tells_other.0 kept.0 (sym ends.0)),
    ⊎_elim
        (λ by. let told : got (Call.farewell source origin) 0 ≡ got (Call.report y by.0) 0 = by.1 in never told)
        (λ s. member_kept other y rows (tells_other.1 (λ e. s.1 (sym e, refl))) ((all.those y).1 s.0)),
  )
    where
      other : Record → Bool
      other row = not (has_number source row)

      tells_other : Tells (not (has_number source y)) (y.source ≡ source → ⊥)
      tells_other = tells_not (has_number source y) (tells_equal y.source source)

      never : {at : Reading} {A : Type 0} → got (Call.farewell source origin) 0 ≡ got (Call.report y at) 0 → A
      never told = let z : ◌≡◌ {A = ℕ} 0 1 = cc in absurd (omega arith)
  accepted_stand (Call.sweep at) y = (
    λ m. let kept : _ = kept_member (fresh_at o at) y rows m in
        inr ((all.those y).0 kept.1, λ ends. ends ((tells_fresh o at y).0 kept.0)),
    ⊎_elim
        (λ by. let told : got (Call.sweep at) 0 ≡ got (Call.report y by.0) 0 = by.1 in never told)
        (λ s.
        member_kept (fresh_at o at) y rows (stable _ (tells_fresh o at y) s.1) ((all.those y).1 s.0)),
  )
    where
      never : {at' : Reading} {A : Type 0} → got (Call.sweep at) 0 ≡ got (Call.report y at') 0 → A
      never told = let z : ◌≡◌ {A = ℕ} 0 1 = cc in absurd (omega arith)

-- ---- one call more

-- the members after the calls of a history, in the register's own terms
abbrev pub IsMember : Opening → History → Member → Type 0
IsMember o h m = Memᴰ m (members_after_all o [] (made_in h))

-- after a history, these are the register's members: their rows are all that stand, and their tallies the history's
pub record Told (o : Opening) (h : History) (ms : Members) : Type 0 where
  pub all : AreAll o h (records_of ms)
  pub kept : Kept ms
  pub tallied : TalliesOfHistory o h ms
  pub members_are : members_after_all o [] (made_in h) ≡ ms

after-refused : (o : Opening) (rows : Rows) (call : Call) → (answer o rows call ≡ 0 → ⊥) → after o rows call ≡ rows
unfolding after
after-refused o rows call h = rw (ne_eqb (answer o rows call) 0 h) refl

pub after-accepted :
    (o : Opening) (rows : Rows) (call : Call) → answer o rows call ≡ 0 → after o rows call ≡ accepted o rows call
unfolding after
after-accepted o rows call e = rw (eq-eqb (answer o rows call) 0 e) refl

-- refused, a call ends no standing
ends_accepted :
    (o : Opening) (rows : Rows) (call : Call) (y : Record) → (answer o rows call ≡ 0 → ⊥) →
    Ends o y (got call (answer o rows call)) → ⊥
unfolding answer
ends_accepted o rows (Call.report x at) y h ends = h ends.1
ends_accepted o rows (Call.farewell source origin) y h ends = h ends.1
ends_accepted o rows (Call.sweep at) y h ends = h refl

after_stand :
    (o : Opening) (h : History) (rows : Rows) → AreAll o h rows → (call : Call) (y : Record) →
    Memᴰ y (after o rows call) ↔ StandsAfter o h (got call (answer o rows call)) y
after_stand o h rows all call y = go (eqb (answer o rows call) 0) refl
  where
    go :
        (t : Bool) → eqb (answer o rows call) 0 ≡ t →
        Memᴰ y (after o rows call) ↔ StandsAfter o h (got call (answer o rows call)) y
    go true e =
        let none : answer o rows call ≡ 0 = eqb-true (answer o rows call) 0 e in
        rw (after-accepted o rows call none)
        (subst (λ (n : ℕ). Memᴰ y (accepted o rows call) ↔ StandsAfter o h (got call n) y) (sym none)
        (accepted_stand o h rows all call y))
    go false e =
        let any-number : answer o rows call ≡ 0 → ⊥ = eqb-false (answer o rows call) 0 e in
        rw (after-refused o rows call any-number) (
          λ m. inr ((all.those y).0 m, ends_accepted o rows call y any-number),
          ⊎_elim (λ by. anew by.0 any-number by.1) (λ s. (all.those y).1 s.0),
        )
      where
        anew :
            (at : Reading) → (answer o rows call ≡ 0 → ⊥) →
            got call (answer o rows call) ≡ got (Call.report y at) 0 → Memᴰ y rows
        anew at refused e = let none : answer o rows call ≡ 0 = cc in absurd (refused none)

made_more : (h : History) (call : Call) (number : ℕ) → made_in (h ++ (got call number ∷ [])) ≡ made_in h ++ (call ∷ [])
unfolding made_in
made_more [] call number = refl
made_more (got first n ∷ h) call number = ap (λ (calls : List Call). first ∷ calls) (made_more h call number)

-- the rows that a call leaves are all that then stand
all_more :
    (o : Opening) (h : History) (rows : Rows) → AreAll o h rows → (call : Call) →
    AreAll o (h ++ (got call (answer o rows call) ∷ [])) (after o rows call)
all_more o h rows all call =
    record {
      unique = unique-after o call rows all.unique;
      those = λ y.
          let here : _ = after_stand o h rows all call y in
          let more : _ = stands_more o h (got call (answer o rows call)) y in
          (λ m. more.1 (here.0 m), λ s. here.1 (more.0 s));
    }

told_more :
    (o : Opening) (h : History) (ms : Members) → Told o h ms → (call : Call) →
    Told o (h ++ (got call (answer o (records_of ms) call) ∷ [])) (members_after o ms call)
unfolding members_after_all
told_more o h ms told call =
    record {
      all = rw (rows-after o ms call) (all_more o h (records_of ms) told.all call);
      kept = kept_after o ms call;
      tallied =
          tallied_more o h ms told.all call told.tallied
          (λ y. (after_stand o h (records_of ms) told.all call y).0);
      members_are =
          ap (members_after_all o []) (made_more h call (answer o (records_of ms) call))
          ∙ members-append o [] (made_in h) (call ∷ [])
          ∙ ap (λ (those : Members). members_after o those call) told.members_are;
    }

-- the members are those that stand
told_members :
    (o : Opening) (h : History) (ms : Members) → Told o h ms → (x : Record) →
    ((tally : ℕ) × Memᴰ (record { «record» = x; tally = tally }) ms) ↔ Stands o h x
told_members o h ms told x = (
  λ member. (told.all.those x).0 ((told.kept _).0 member.1).0,
  λ s. (tally_in ms x.source, (told.kept _).1 ((told.all.those x).1 s, refl)),
)

-- with the history's tallies
told_tallies :
    (o : Opening) (h : History) (ms : Members) → Told o h ms → (m : Member) → Memᴰ m ms →
    TallyIs o h m.«record».source m.tally
told_tallies o h ms told m member =
    let x : Record = m.«record» in
    let both : _ = (told.kept m).0 member in
    rw both.1 (told.tallied x.source (number_of_row x (records_of ms) both.0))

-- ---- twins

-- a twin's call is refused, by its lines
twin_refused :
    (o : Opening) (h : History) (call : Call) (number : ℕ) → Means (lines_of o h call) number →
    (x : Record) → Stands o h x → FromTwin x call → TwinGets o call number × (number ≡ 0 → ⊥)
unfolding lines_of NoneOf MeansBehind
twin_refused o h (Call.report y at) number means x s twin =
    (gets, go (is_other_stream o y.report.group y.report.media) (tells_other_stream o y))
  where
    elsewhere : HeldElsewhere o h y.source y.origin
    elsewhere = (x, s, sym twin.0, λ e. twin.1 (sym e))

    gets : TwinGets o (Call.report y at) number
    gets = (λ other. means.0.1 (tt, other), λ own. means.1.0.1 ((own, tt), elsewhere))

    go : (t : Bool) → Tells t (OtherStream o y) → number ≡ 0 → ⊥
    go true tell e = omega (arith, gets.0 (tell.0 refl))
    go false tell e = omega (arith, gets.1 (λ other. clash (tell.1 other)))
twin_refused o h (Call.farewell source origin) number means x s twin = (gets, λ e. omega (arith, gets))
  where
    gets : number ≡ other_origin
    gets = means.1.0.1 ((λ free. free x s (sym twin.0), tt), (x, s, sym twin.0, λ e. twin.1 (sym e)))
twin_refused o h (Call.sweep at) number means x s twin = absurd twin

-- ---- the sentences

-- a twin's call is under the member's number
twin_under : (x : Record) (call : Call) → FromTwin x call → is_under x.source call ≡ true
twin_under x (Call.report y at) twin = eq-eqb y.source x.source twin.0
twin_under x (Call.farewell source origin) twin = eq-eqb source x.source twin.0
twin_under x (Call.sweep at) twin = absurd twin

-- refused, it leaves the member, with 14 tallied
twin_tallied :
    (o : Opening) (ms : Members) (call : Call) (m : Member) → Kept ms → Memᴰ m ms → FromTwin m.«record» call →
    (answer o (records_of ms) call ≡ 0 → ⊥) →
    Memᴰ (tallied (answer o (records_of ms) call) m) (members_after o ms call)
twin_tallied o ms call m kept member twin refused =
    let x : Record = m.«record» in
    let both : _ = (kept m).0 member in
    let row : Memᴰ x (after o (records_of ms) call) =
    rw (after-refused o (records_of ms) call refused) both.0 in
    let own : tally_after o ms call x.source ≡ (tallied (answer o (records_of ms) call) m).tally =
    rw (twin_under x call twin, ← both.1) (ap (λ (t : Bool). cond t (raised m.tally) m.tally)
    (and-true (eqb (answer o (records_of ms) call) other_origin))) in
    (kept_after o ms call (tallied (answer o (records_of ms) call) m)).1
    (rw (rows-after o ms call) row, sym (tally_after_lem o ms call x.source (number_of_row x _ row) ∙ own))

-- what the letter says of one call, its answer and the members that it leaves
abbrev Says : Opening → History → Call → ℕ → Type 0
Says o h call number = TwinAltersTallyAlone o (IsMember o) h call number × Means (lines_of o h call) number

says_next :
    (o : Opening) (h : History) (ms : Members) → Told o h ms → (call : Call) →
    Says o h call (answer o (records_of ms) call)
says_next o h ms told call = (twins, means)
  where
    means : Means (lines_of o h call) (answer o (records_of ms) call)
    means = answer_means o h (records_of ms) told.all call

    twins : TwinAltersTallyAlone o (IsMember o) h call (answer o (records_of ms) call)
    twins m is twin =
        let member : Memᴰ m ms = rw told.members_are at is in
        let stands : Stands o h m.«record» = (told_members o h ms told m.«record»).0 (m.tally, member) in
        let gets : _ = twin_refused o h call (answer o (records_of ms) call) means m.«record» stands twin in (
          gets.0,
          rw (told_more o h ms told call).members_are
              (twin_tallied o ms call m told.kept member twin gets.1),
        )

follows :
    (o : Opening) (h : History) (ms : Members) (calls : List Call) → Told o h ms → OfEachCall (Says o) h →
    Told o (h ++ history calls (answers o (records_of ms) calls)) (members_after_all o ms calls)
    × OfEachCall (Says o) (h ++ history calls (answers o (records_of ms) calls))
unfolding history answers members_after_all
follows o h ms [] told each = rw (append-nil h) (told, each)
follows o h ms (call ∷ calls) told each =
    let number : ℕ = answer o (records_of ms) call in
    let next : _ =
    follows o (h ++ (got call number ∷ [])) (members_after o ms call) calls (told_more o h ms told call)
    (each_more (Says o) h call number each (says_next o h ms told call)) in
    rw (append_assoc h (got call number ∷ []) _, rows-after o ms call) at next

told_none : (o : Opening) → Told o [] []
unfolding filter made_in members_after_all records_of any
told_none o =
    record {
      all = record {
        unique = λ source. omega arith;
        those = λ x. (λ m. absurd (mathlib.Core.List.Memᴰ.not-nil m), λ s. absurd (no_cons s.before _ s.behind s.reported));
      };
      kept = kept_none;
      tallied = λ source held. clash held;
      members_are = refl;
    }

-- each call got an answer
pub made_of : (o : Opening) (rows : Rows) (calls : List Call) → made_in (history calls (answers o rows calls)) ≡ calls
unfolding made_in history answers
made_of o rows [] = refl
made_of o rows (call ∷ calls) = ap (λ (more : List Call). call ∷ more) (made_of o (after o rows call) calls)

-- a beginning of the register's history is the register's history of its calls
beginning :
    (o : Opening) (rows : Rows) (calls : List Call) (before behind : History) →
    history calls (answers o rows calls) ≡ before ++ behind →
    before ≡ history (made_in before) (answers o rows (made_in before))
unfolding made_in history answers
beginning o rows calls [] behind e = refl
beginning o rows [] (got first n ∷ before) behind e = absurd (no_cons [] (got first n) (before ++ behind) e)
beginning o rows (call ∷ calls) (got first n ∷ before) behind e =
    let same : call ≡ first = cc in
    let number : answer o rows call ≡ n = cc in
    let rest : history calls (answers o (after o rows call) calls) ≡ before ++ behind = cc in
    let more : before ≡ history (made_in before) (answers o (after o rows call) (made_in before)) =
    beginning o (after o rows call) calls before behind rest in
    rw (← same) (ap₂ ◌∷◌ (ap (got call) (sym number)) more)

-- Whatever the calls, the letter's sentences hold of the register's answers and members.
pub letter : (o : Opening) (calls : List Call) → Letter o (history calls (answers o [] calls)) (IsMember o)
unfolding records_of
letter o calls =
    record {
      members = λ before behind e.
          told_members o before (members_after_all o [] (made_in before)) (told before behind e);
      tallies = λ before behind e.
          told_tallies o before (members_after_all o [] (made_in before)) (told before behind e);
      twins = λ before call number behind e. ((run calls).1 before call number behind e).0;
      refusals = λ before call number behind e. ((run calls).1 before call number behind e).1;
    }
  where
    run :
        (those : List Call) →
        Told o (history those (answers o [] those)) (members_after_all o [] those)
        × OfEachCall (Says o) (history those (answers o [] those))
    run those = follows o [] [] those (told_none o) (each_none (Says o))

    told :
        (before behind : History) → history calls (answers o [] calls) ≡ before ++ behind →
        Told o before (members_after_all o [] (made_in before))
    told before behind e = rw (← beginning o [] calls before behind e) at (run (made_in before)).0

-- ... and of whoever shows the same members.
pub letter-shown :
    (o : Opening) (h : History) (Shown Other : History → Member → Type 0) →
    ((g : History) (m : Member) → Shown g m ↔ Other g m) → Letter o h Shown → Letter o h Other
letter-shown o h Shown Other same l =
    record {
      members = λ before behind e x.
          let member : _ = l.members before behind e x in (
            λ shown. member.0 (shown.0, (same before _).1 shown.1),
            λ s. ((member.1 s).0, (same before _).0 (member.1 s).1),
          );
      tallies = λ before behind e m shown. l.tallies before behind e m ((same before m).1 shown);
      twins = λ before call number behind e m shown twin.
          let gets : _ = l.twins before call number behind e m ((same before m).1 shown) twin in
          (gets.0, (same (before ++ (got call number ∷ [])) (tallied number m)).0 gets.1);
      refusals = l.refusals;
    }
