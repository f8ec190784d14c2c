-- The tally kept beside a row is the history's: what lies behind a number's last joining after one event more, and how
-- often 14 stands in it. And a history tells one tally of a number.
use Prim.Native.Nat.{ℕ, suc, ◌+◌}
use mathlib.Core.Bool.{Bool, true, false, cond, ◌&&◌, and-false}
use mathlib.Core.List.{[], ◌∷◌, ◌++◌, append_assoc, Memᴰ}
use mathlib.Core.Logic.{inl, inr}
use mathlib.Core.Path.{◌≡◌, refl, sym, ap, subst, ◌∙◌}
use lib.Dec.{ltb, eqb}
use lib.ListN.{length}
use native.Mathlib.Omega.{arith}
use borrow.Author.Tests.{eqb-true, eq-eqb, ltb-false, le-ltb}
use Rattle.refusals.specs.Refusals.{other_origin}
use Rattle.register.specs.declared.Record.{Record}
use Rattle.register.specs.declared.Opening.{Opening}
use Rattle.register.specs.Register.{Call, filter, any, has_number, answer, after}
use Rattle.register.specs.Tallies.{Members, records_of, tally_limit, cut_at_limit, raised, is_under, tally_in, tally_behind}
use Rattle.register.specs.Tallies.{tally_after, members_after}
use Rattle.register.specs.Letter.{Event, got, History, AreAll, NotHeld, Joins, SinceJoined, got_other_origin}
use Rattle.register.specs.Letter.{times_refused, cut, TallyIs}
use Rattle.register.proofs.Rows.{clash}
use Rattle.register.proofs.Tallies.{rows-after, tally_none, tally_after_lem}
use Rattle.register.proofs.Letter.Lines.{tells_any}
use Rattle.register.proofs.Letter.Members.{Split, here, there, split_last, no_cons, StandsAfter}

-- ---- since a number joined, after one event more

joined_here :
    (o : Opening) (h : History) (e : Event) (source : ℕ) → Joins o h source e → SinceJoined o (h ++ (e ∷ [])) source []
joined_here o h e source joins =
    record {
      before = h;
      joining = e;
      whole = refl;
      joins = joins;
      last = λ between f later q. absurd (no_cons between f later q);
    }

joined_still :
    (o : Opening) (h : History) (e : Event) (source : ℕ) (rest : History) → SinceJoined o h source rest →
    (Joins o h source e → ⊥) → SinceJoined o (h ++ (e ∷ [])) source (rest ++ (e ∷ []))
joined_still o h e source rest s none =
    record {
      before = s.before;
      joining = s.joining;
      whole =
          ap (λ (g : History). g ++ (e ∷ [])) s.whole ∙ append_assoc s.before (s.joining ∷ rest) (e ∷ []);
      joins = s.joins;
      last = λ between f later q. go between f later (split_last rest e between f later q);
    }
  where
    go :
        (between : History) (f : Event) (later : History) → Split rest e between f later →
        Joins o (s.before ++ (s.joining ∷ between)) source f → ⊥
    go between f later (here p q k) joins = none (rw (s.whole, p, q) joins)
    go between f later (there more p k) joins = s.last between f more p joins

-- ---- how many times

-- what the letter counts is what the register tallies
got_under :
    (source : ℕ) (call : Call) (number : ℕ) →
    got_other_origin source (got call number) ≡ (eqb number other_origin && is_under source call)
got_under source (Call.report x at) number = refl
got_under source (Call.farewell other origin) number = refl
got_under source (Call.sweep at) number = sym (and-false (eqb number other_origin))

times_more :
    (source : ℕ) (h : History) (e : Event) →
    times_refused source (h ++ (e ∷ []))
    ≡ cond (got_other_origin source e) (times_refused source h + 1) (times_refused source h)
unfolding filter
times_more source [] e = go (got_other_origin source e)
  where
    go : (t : Bool) → length (cond t (e ∷ []) []) ≡ cond t 1 0
    go true = refl
    go false = refl
times_more source (first ∷ h) e =
    go (got_other_origin source first) (got_other_origin source e) (times_more source h e)
  where
    go :
        (t u : Bool) →
        times_refused source (h ++ (e ∷ [])) ≡ cond u (times_refused source h + 1) (times_refused source h) →
        length
        (cond t (first ∷ filter (got_other_origin source) (h ++ (e ∷ [])))
        (filter (got_other_origin source) (h ++ (e ∷ []))))
        ≡ cond u (length (cond t (first ∷ filter (got_other_origin source) h) (filter (got_other_origin source) h)) + 1)
        (length (cond t (first ∷ filter (got_other_origin source) h) (filter (got_other_origin source) h)))
    go true true rest = omega (arith, rest)
    go true false rest = ap suc rest
    go false u rest = rest

-- the letter's limit is the register's
cut-same : (n : ℕ) → cut n ≡ cut_at_limit n
cut-same n = refl

-- the limit is met one by one as it is at once
raised-cut : (n : ℕ) → cut_at_limit (n + 1) ≡ raised (cut_at_limit n)
raised-cut n = go (ltb n tally_limit) refl
  where
    go : (t : Bool) → ltb n tally_limit ≡ t → cut_at_limit (n + 1) ≡ cut_at_limit (cond t n tally_limit + 1)
    go true e = refl
    go false e = let above : _ = ltb-false n tally_limit e in rw (le-ltb (n + 1) tally_limit (omega arith)) refl

tally_more :
    (source : ℕ) (rest : History) (call : Call) (number : ℕ) →
    cut (times_refused source (rest ++ (got call number ∷ [])))
    ≡ tally_behind call number source (cut (times_refused source rest))
tally_more source rest call number =
    let times : ℕ = times_refused source rest in
    let more : times_refused source (rest ++ (got call number ∷ []))
    ≡ cond (eqb number other_origin && is_under source call) (times + 1) times =
    times_more source rest (got call number)
    ∙ ap (λ (t : Bool). cond t (times + 1) times) (got_under source call number) in
    ap cut more
    ∙ cut-same (cond (eqb number other_origin && is_under source call) (times + 1) times)
    ∙ go (eqb number other_origin && is_under source call)
    ∙ ap (tally_behind call number source) (sym (cut-same times))
  where
    go :
        (t : Bool) →
        cut_at_limit (cond t (times_refused source rest + 1) (times_refused source rest))
        ≡ cond t (raised (cut_at_limit (times_refused source rest))) (cut_at_limit (times_refused source rest))
    go true = raised-cut (times_refused source rest)
    go false = refl

-- ---- one call more

-- each row's number has the history's tally
abbrev pub TalliesOfHistory : Opening → History → Members → Type 0
TalliesOfHistory o h ms =
    (source : ℕ) → any (has_number source) (records_of ms) ≡ true → TallyIs o h source (tally_in ms source)

-- a call with the register's answer
abbrev event_of : Opening → Members → Call → Event
event_of o ms call = got call (answer o (records_of ms) call)

module _ (o : Opening) (h : History) (ms : Members) (all : AreAll o h (records_of ms)) (call : Call) where
  -- what is said of a number's tally after the call
  abbrev Next : ℕ → Type 0
  Next source = TallyIs o (h ++ (event_of o ms call ∷ [])) source (tally_after o ms call source)

  -- of a number that was held: no call is a joining
  tallied_held :
      TalliesOfHistory o h ms → (source : ℕ) → any (has_number source) (records_of ms) ≡ true → Next source
  tallied_held tallied source held =
      let before : _ = tallied source held in
      let number : ℕ = answer o (records_of ms) call in (
        before.0 ++ (event_of o ms call ∷ []),
        joined_still o h (event_of o ms call) source before.0 before.1 (none (event_of o ms call)),
        ap (tally_behind call number source) before.2 ∙ sym (tally_more source before.0 call number),
      )
    where
      none : (f : Event) → Joins o h source f → ⊥
      none (got (Call.report x at) n) joins =
          let found : _ = (tells_any (has_number source) (records_of ms)).0 held in
          joins.2 found.0 ((all.those found.0).0 found.1) (eqb-true found.0.source source found.2)
      none (got (Call.farewell other origin) n) joins = joins
      none (got (Call.sweep at) n) joins = joins

  -- of a number that was not held: the call is its joining
  tallied_joined :
      (source : ℕ) → any (has_number source) (records_of ms) ≡ false → Joins o h source (event_of o ms call) →
      answer o (records_of ms) call ≡ 0 → Next source
  unfolding filter
  tallied_joined source free joins accepted = (
    [],
    joined_here o h (event_of o ms call) source joins,
    rw accepted (tally_none ms source free),
  )

  -- a row that was not there is that of an accepted report, by which its number joins
  joined_by :
      (source : ℕ) → any (has_number source) (records_of ms) ≡ false → (y : Record) → y.source ≡ source →
      StandsAfter o h (event_of o ms call) y →
      Joins o h source (event_of o ms call) × (answer o (records_of ms) call ≡ 0)
  joined_by source free y own (inl by) =
      let told : got call (answer o (records_of ms) call) ≡ got (Call.report y by.0) 0 = by.1 in
      let none : answer o (records_of ms) call ≡ 0 = cc in
      (subst (λ (f : Event). Joins o h source f) (sym told) (own, refl, stranger), none)
    where
      stranger : NotHeld o h source
      stranger x s q =
          clash
          (sym free
          ∙ (tells_any (has_number source) (records_of ms)).1 (x, (all.those x).1 s, eq-eqb x.source source q))
  joined_by source free y own (inr still) =
      clash
      (sym free
      ∙ (tells_any (has_number source) (records_of ms)).1 (y, (all.those y).1 still.0, eq-eqb y.source source own))

  pub tallied_more :
      TalliesOfHistory o h ms →
      ((y : Record) → Memᴰ y (after o (records_of ms) call) → StandsAfter o h (event_of o ms call) y) →
      TalliesOfHistory o (h ++ (event_of o ms call ∷ [])) (members_after o ms call)
  tallied_more tallied stand source held =
      let now : any (has_number source) (after o (records_of ms) call) ≡ true = rw (rows-after o ms call) at held in
      rw (tally_after_lem o ms call source now) (go (any (has_number source) (records_of ms)) refl now)
    where
      go :
          (t : Bool) → any (has_number source) (records_of ms) ≡ t →
          any (has_number source) (after o (records_of ms) call) ≡ true → Next source
      go true e now = tallied_held tallied source e
      go false e now =
          let found : _ = (tells_any (has_number source) (after o (records_of ms) call)).0 now in
          let own : found.0.source ≡ source = eqb-true found.0.source source found.2 in
          let by : _ = joined_by source e found.0 own (stand found.0 found.1) in
          tallied_joined source e by.0 by.1

-- ---- a number has one tally

-- where a history is split at two events: they are the same, or one lies behind the other
data TwoSplits (a : History) (x : Event) (b c : History) (y : Event) (d : History) : Type 0 where
  same : b ≡ d → TwoSplits a x b c y d
  first : (between : History) → c ≡ a ++ (x ∷ between) → b ≡ between ++ (y ∷ d) → TwoSplits a x b c y d
  second : (between : History) → a ≡ c ++ (y ∷ between) → d ≡ between ++ (x ∷ b) → TwoSplits a x b c y d

two_splits :
    (a : History) (x : Event) (b c : History) (y : Event) (d : History) → a ++ (x ∷ b) ≡ c ++ (y ∷ d) →
    TwoSplits a x b c y d
two_splits [] x b [] y d e = let rest : b ≡ d = cc in same rest
two_splits [] x b (z ∷ c) y d e =
    let head : z ≡ x = cc in
    let rest : b ≡ c ++ (y ∷ d) = cc in
    first c (ap (λ (f : Event). f ∷ c) head) rest
two_splits (z ∷ a) x b [] y d e =
    let head : z ≡ y = cc in
    let rest : d ≡ a ++ (x ∷ b) = cc in
    second a (ap (λ (f : Event). f ∷ a) head) rest
two_splits (z ∷ a) x b (w ∷ c) y d e =
    let head : z ≡ w = cc in
    let rest : a ++ (x ∷ b) ≡ c ++ (y ∷ d) = cc in
    go head (two_splits a x b c y d rest)
  where
    go : z ≡ w → TwoSplits a x b c y d → TwoSplits (z ∷ a) x b (w ∷ c) y d
    go head (same p) = same p
    go head (first between p q) = first between (cc) q
    go head (second between p q) = second between (cc) q

since_once :
    (o : Opening) (h : History) (source : ℕ) (b d : History) → SinceJoined o h source b → SinceJoined o h source d →
    b ≡ d
since_once o h source b d s r =
    go (two_splits s.before s.joining b r.before r.joining d (sym s.whole ∙ r.whole))
  where
    go : TwoSplits s.before s.joining b r.before r.joining d → b ≡ d
    go (same p) = p
    go (first between p q) = absurd (s.last between r.joining d q (rw p at r.joins))
    go (second between p q) = absurd (r.last between s.joining b q (rw p at s.joins))

-- Whatever the history, it tells at most one tally of a number.
pub tally_once :
    (o : Opening) (h : History) (source m n : ℕ) → TallyIs o h source m → TallyIs o h source n → m ≡ n
tally_once o h source m n a b =
    a.2
    ∙ ap (λ (g : History). cut (times_refused source g)) (since_once o h source a.0 b.0 a.1 b.1)
    ∙ sym b.2
