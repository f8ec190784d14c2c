-- Demand 3, one theorem: by induction over the calls, table and register answer alike and stay in agreement; choosing
-- on the table is then the register's choice, whatever the order of rows, by the theorem of `choosing`.
use Prim.Native.Nat.{ℕ, suc, ◌<◌}
use Rattle.std.specs.Prelude.{Result}
use Rattle.register.specs.declared.Target.{Target}
use Rattle.refusals.specs.declared.RefusalNumber.{RefusalNumber}
use mathlib.Core.Bool.{Bool, true, false, and-eq-true_iff}
use mathlib.Core.List.Memᴰ
use mathlib.Core.List.{List, [], ◌∷◌, ◌++◌, Memᴰ, Permᴰ}
use mathlib.Core.Logic.{◌↔◌}
use mathlib.Core.Path.{◌≡◌, refl, sym, ap, ◌∙◌}
use lib.Dec.{ltb, lit<}
use lib.ListN.{length, get_or, length-replicate}
use native.Mathlib.Omega.{arith}
use borrow.Author.Tests.{ltb-true, lt-ltb}
use Rattle.places.specs.Places.{is_held, holds_place}
use Rattle.register.specs.declared.Record.{Record}
use Rattle.register.specs.declared.Member.{Member}
use Rattle.register.specs.declared.Reading.{Reading}
use Rattle.register.specs.declared.Opening.{Opening}
use Rattle.register.specs.Register.{Rows, Call, is_refused_opening, filter, answer, after, answers, after_all}
use Rattle.register.specs.Tallies.{Members, records_of, members_after, members_after_all}
use Rattle.register.specs.Choosing.{choice}
use Rattle.register.specs.Promise.{AllInRange, Promised}
use Rattle.register.specs.Letter.{History, history, made_in, BadOpening}
use Rattle.register.proofs.Rows.{member_permuted}
use Rattle.register.proofs.History.{ranges-append}
use Rattle.register.proofs.Unique.{unique-permuted}
use Rattle.register.proofs.Stands.{Sound, sound_rows}
use Rattle.register.proofs.Tallies.{Kept, kept_none, kept_after_all, length-rows, rows-after, rows_after-all}
use Rattle.register.proofs.Tallies.{members-append, members-permuted}
use Rattle.register.proofs.Letter.Lines.{untold}
use Rattle.register.proofs.Letter.Tests.{tells_bad_opening, opening_means}
use Rattle.register.proofs.Letter.Theorem.{IsMember, made_of, letter, letter-shown}
use Rattle.choosing.specs.Marked.{nowhere, nobody}
use Rattle.choosing.specs.Choose.{choice_among}
use Rattle.choosing.proofs.Laws.Marked.{row_at, rows_of_marked}
use Rattle.choosing.proofs.Theorems.{chosen-alike, chosen-promised}
use Rattle.table.specs.declared.Table.{Table}
use Rattle.table.specs.declared.Place.{Place}
use Rattle.table.specs.Members.{opening_of, members_of, member_count, place_at, records_in, vacant, empty_table}
use Rattle.table.specs.Calls.{opened, answered}
use Rattle.table.specs.Choose.{choice_of}
use Rattle.table.specs.History.{answers_from, table_from, Shows, IsShown, OpeningMeans, Agree, Reached, EveryList}
use Rattle.table.proofs.Laws.Members.{marked_none, member_at_place, place_of_member, place-once}
use Rattle.table.proofs.Agreement.Calls.{Holds, rows-count, number_same, answered_holds}
use Rattle.table.proofs.Agreement.Tallies.{TalliesAgree, answered-tallies}

-- ---- opening

empty_holds : (o : Opening) → Holds o (empty_table o) []
unfolding empty_table filter
empty_holds o =
    record {
      opening = refl;
      fits = lit< tt;
      long = length-replicate 64 vacant;
      same = rw (marked_none (records_in (empty_table o))) (mathlib.Core.List.Permᴰ.refl []);
      unique = λ source. omega arith;
    }

empty_tallies : (o : Opening) → TalliesAgree (empty_table o) []
unfolding empty_table
empty_tallies o m member = absurd (Memᴰ.not-nil (rw (marked_none (empty_table o).members) at member))

opened_holds :
    (o : Opening) → (BadOpening o → ⊥) →
    ((opened o).number ≡ 0) × Holds o (opened o).table [] × TalliesAgree (opened o).table []
unfolding opened
opened_holds o taken =
    rw (untold (is_refused_opening o) (tells_bad_opening o) taken) (refl, empty_holds o, empty_tallies o)

-- Of every opening: the answer means what the table of refusals says of 12.
pub opening-answered : (o : Opening) → OpeningMeans o
unfolding opened
opening-answered o = go (is_refused_opening o) refl
  where
    go : (t : Bool) → is_refused_opening o ≡ t → OpeningMeans o
    go true e = rw e (rw e at (opening_means o))
    go false e = rw e (rw e at (opening_means o))

-- ---- any list of calls

-- from a table and members in agreement: every answer is the register's, and they agree afterwards
pub record AgreementAfter (o : Opening) (t : Table) (ms : Members) (calls : List Call) : Type 0 where
  pub answers-same : answers_from t calls ≡ answers o (records_of ms) calls
  pub holds : Holds o (table_from t calls) (records_of (members_after_all o ms calls))
  pub tallies : TalliesAgree (table_from t calls) (members_after_all o ms calls)

pub agreement_after :
    (o : Opening) (t : Table) (ms : Members) (calls : List Call) → Holds o t (records_of ms) → TalliesAgree t ms →
    AgreementAfter o t ms calls
unfolding answers_from table_from answers members_after_all answered
agreement_after o t ms [] h tallies = record { answers-same = refl; holds = h; tallies = tallies }
agreement_after o t ms (call ∷ calls) h tallies =
    let rows : records_of (members_after o ms call) ≡ after o (records_of ms) call = rows-after o ms call in
    let next : _ =
    agreement_after o (answered t call).table (members_after o ms call) calls
    (rw rows (answered_holds o t (records_of ms) h call))
    (answered-tallies o t ms h tallies call) in
    record {
      answers-same =
          ap (λ (n : ℕ). n ∷ answers_from (answered t call).table calls) (number_same o t (records_of ms) h call)
          ∙ ap (λ (ns : List ℕ). answer o (records_of ms) call ∷ ns)
          (next.answers-same ∙ ap (λ (rs : Rows). answers o rs calls) rows);
      holds = next.holds;
      tallies = next.tallies;
    }

-- from the table that opening returned
from_opened : (o : Opening) → (BadOpening o → ⊥) → (calls : List Call) → AgreementAfter o (opened o).table [] calls
unfolding records_of
from_opened o taken calls =
    let opens : _ = opened_holds o taken in agreement_after o (opened o).table [] calls opens.1 opens.2

-- ---- choosing

-- at the opening's rate
choice-at_rate : (o : Opening) (t : Table) (at : Reading) → opening_of t ≡ o →
    choice_of t at ≡ choice_among o.rate at t.held (records_in t)
unfolding choice_of
choice-at_rate o t at e = ap (λ (p : Opening). choice_among p.rate at t.held (records_in t)) e

pub chosen-same :
    (o : Opening) (t : Table) (rows : Rows) → Holds o t rows → (at : Reading) → choice_of t at ≡ choice o at rows
chosen-same o t rows h at =
    choice-at_rate o t at h.opening
    ∙ chosen-alike o at t.held (records_in t) rows (length-rows t.members ∙ h.long) h.same h.unique

promised-same :
    (o : Opening) (t : Table) (rows : Rows) → Holds o t rows → Sound o rows → (at : Reading) →
    Promised o at rows (choice_of t at)
promised-same o t rows h sound at =
    rw (choice-at_rate o t at h.opening)
    (chosen-promised o at t.held (records_in t) rows (length-rows t.members ∙ h.long) h.same h.unique
    sound)

-- ---- the members, as the public calls show them

-- the table's members are the register's
pub members-same :
    (o : Opening) (t : Table) (ms : Members) → Holds o t (records_of ms) → TalliesAgree t ms → Kept ms →
    Permᴰ (members_of t) ms
members-same o t ms h tallies kept =
    members-permuted (members_of t) ms kept (rw (rows_of_marked t.held t.members) h.same) tallies

module _ (t : Table) (ms : Members) (long : length t.members ≡ 64) (same : Permᴰ (members_of t) ms) where
  place_row :
      (place : ℕ) → ((place_at t place).held ≡ 0 → ⊥) →
      ((place_at t place).held ≡ 1) × Memᴰ (place_at t place).member ms
  unfolding place_at
  place_row place = go (holds_place t.held place) refl
    where
      go :
          (b : Bool) → holds_place t.held place ≡ b → ((place_at t place).held ≡ 0 → ⊥) →
          ((place_at t place).held ≡ 1) × Memᴰ (place_at t place).member ms
      go true e used =
          let both : _ = (and-eq-true_iff (ltb place 64) (is_held place t.held)).0 e in
          let within : place < length t.members = omega (arith, ltb-true place 64 both.0, long) in
          rw e (refl, member_permuted same (member_at_place t.held place t.members nobody both.1 within))
      go false e used = let free : (place_at t place).held ≡ 0 = rw e refl in absurd (used free)

  pub row_place : (m : Member) → Memᴰ m ms → Shows t m
  unfolding place_at
  row_place m member =
      let at : _ = place_of_member m t.held t.members nobody (member_permuted (mathlib.Core.List.Permᴰ.symm same) member) in
      let below : at.place < 64 = omega (arith, at.within, long) in
      (at.place, below, rw (lt-ltb at.place 64 below, at.held, at.row_is) refl)

  -- whoever is shown is one of the members
  pub shown_row : (m : Member) → Shows t m → Memᴰ m ms
  shown_row m at =
      let held : _ = ap (λ (s : Place). s.held) at.2 in
      rw (ap (λ (s : Place). s.member) at.2) at (place_row at.0 (λ free. omega (arith, held, free))).1

-- what a place shows that is held
pub shown_there :
    (t : Table) (place : ℕ) → (place_at t place).held ≡ 1 →
    (place < 64) × (is_held place t.held ≡ true) × ((place_at t place).member ≡ get_or t.members place nobody)
unfolding place_at
shown_there t place = go (holds_place t.held place) refl
  where
    go :
        (b : Bool) → holds_place t.held place ≡ b → (place_at t place).held ≡ 1 →
        (place < 64) × (is_held place t.held ≡ true) × ((place_at t place).member ≡ get_or t.members place nobody)
    go true e one =
        let both : _ = (and-eq-true_iff (ltb place 64) (is_held place t.held)).0 e in
        (ltb-true place 64 both.0, both.1, rw e refl)
    go false e one = let none : ◌≡◌ {A = ℕ} 0 1 = rw e at one in absurd (omega (arith, none))

-- its record
pub shown_record :
    (t : Table) (place : ℕ) → (place_at t place).held ≡ 1 →
    (place_at t place).member.«record» ≡ get_or (records_in t) place nowhere
shown_record t place shows =
    ap (λ (m : Member). m.«record») (shown_there t place shows).2 ∙ sym (row_at t.members place)

places-once :
    (o : Opening) (t : Table) (rows : Rows) → Holds o t rows → (p q : ℕ) →
    (place_at t p).held ≡ 1 → (place_at t q).held ≡ 1 →
    (place_at t p).member.«record».source ≡ (place_at t q).member.«record».source → p ≡ q
places-once o t rows h p q first second same =
    let a : _ = shown_there t p first in
    let b : _ = shown_there t q second in
    let long : length (records_in t) ≡ 64 = length-rows t.members ∙ h.long in
    place-once t.held (records_in t) (unique-permuted (mathlib.Core.List.Permᴰ.symm h.same) h.unique) p q
    a.1 b.1 (omega (arith, a.0, long)) (omega (arith, b.0, long))
    (sym (ap (λ (x : Record). x.source) (shown_record t p first))
    ∙ same
    ∙ ap (λ (x : Record). x.source) (shown_record t q second))

agreed :
    (o : Opening) (t : Table) (ms : Members) → Holds o t (records_of ms) → TalliesAgree t ms → Kept ms →
    Sound o (records_of ms) → Agree o t ms
unfolding member_count
agreed o t ms h tallies kept sound =
    let same : Permᴰ (members_of t) ms = members-same o t ms h tallies kept in
    record {
      opening = h.opening;
      same = same;
      unique = h.unique;
      own = λ row member. ((sound row member).group, (sound row member).media);
      count = rows-count o t (records_of ms) h ∙ length-rows ms;
      places = place_row t ms h.long same;
      placed = row_place t ms h.long same;
      once = places-once o t (records_of ms) h;
    }

-- ---- the letter's sentences

-- the table shows the register's members
shown_member : (o : Opening) → (BadOpening o → ⊥) → (h : History) (m : Member) → IsMember o h m ↔ IsShown o h m
shown_member o taken h m =
    let alike : _ = from_opened o taken (made_in h) in
    let long : _ = alike.holds.long in
    let same : _ =
    members-same o _ _ alike.holds alike.tallies (kept_after_all o [] (made_in h) kept_none) in
    (row_place _ _ long same m, shown_row _ _ long same m)

-- ---- demand 3

pub reached_holds :
    (o : Opening) (calls : List Call) (t : Table) (ms : Members) → Reached o calls t ms → Holds o t (records_of ms)
reached_holds o calls t ms here =
    rw (here.table_is, here.members_are) (from_opened o here.taken calls).holds

pub reached-tallies :
    (o : Opening) (calls : List Call) (t : Table) (ms : Members) → Reached o calls t ms → TalliesAgree t ms × Kept ms
reached-tallies o calls t ms here =
    rw (here.table_is, here.members_are)
    ((from_opened o here.taken calls).tallies, kept_after_all o [] calls kept_none)

reached-rows :
    (o : Opening) (calls : List Call) (t : Table) (ms : Members) → Reached o calls t ms →
    records_of ms ≡ after_all o [] calls
unfolding records_of
reached-rows o calls t ms here = ap records_of here.members_are ∙ rows_after-all o [] calls

-- each row stands on an accepted report
pub reached_sound :
    (o : Opening) (calls : List Call) (t : Table) (ms : Members) → Reached o calls t ms → Sound o (records_of ms)
reached_sound o calls t ms here = rw (reached-rows o calls t ms here) (sound_rows o calls here.ranges)

pub demand3 : EveryList
unfolding records_of
demand3 o calls t ms reached =
    let same : answers_from (opened o).table calls ≡ answers o [] calls =
    (from_opened o reached.taken calls).answers-same in
    let holds : Holds o t (records_of ms) = reached_holds o calls t ms reached in
    let tallies : _ = reached-tallies o calls t ms reached in
    let sound : Sound o (records_of ms) = reached_sound o calls t ms reached in
    record {
      opens = (opened_holds o reached.taken).0;
      numbers = same;
      rows = reached-rows o calls t ms reached;
      agree = agreed o t ms holds tallies.0 tallies.1 sound;
      whole = rw same (made_of o [] calls);
      letter =
          rw same
          (letter-shown o (history calls (answers o [] calls)) (IsMember o) (IsShown o)
          (shown_member o reached.taken)
          (letter o calls));
      chosen = λ at. ap (λ (c : Result Target RefusalNumber). record { choice = c; table = t }) (chosen-same o t (records_of ms) holds at);
      promised = promised-same o t (records_of ms) holds sound;
    }

-- every opening that is taken and every list of calls in range reach a table and members
pub reached :
    (o : Opening) (calls : List Call) → (BadOpening o → ⊥) → AllInRange calls →
    Reached o calls (table_from (opened o).table calls) (members_after_all o [] calls)
reached o calls taken ranges = record { taken = taken; ranges = ranges; table_is = refl; members_are = refl }

-- ---- calls after calls

pub table-append :
    (t : Table) (calls more : List Call) → table_from t (calls ++ more) ≡ table_from (table_from t calls) more
unfolding table_from
table-append t [] more = refl
table-append t (call ∷ calls) more = table-append (answered t call).table calls more

pub length-answers_from : (t : Table) (calls : List Call) → length (answers_from t calls) ≡ length calls
unfolding answers_from
length-answers_from t [] = refl
length-answers_from t (call ∷ calls) = ap suc (length-answers_from (answered t call).table calls)

-- what is reached is reached further by more calls, one by one or in a datagram
pub reached_further :
    (o : Opening) (calls : List Call) (t : Table) (ms : Members) (more : List Call) → Reached o calls t ms →
    AllInRange more → Reached o (calls ++ more) (table_from t more) (members_after_all o ms more)
reached_further o calls t ms more here ranges =
    record {
      taken = here.taken;
      ranges = ranges-append calls more here.ranges ranges;
      table_is =
          ap (λ (u : Table). table_from u more) here.table_is ∙ sym (table-append (opened o).table calls more);
      members_are =
          ap (λ (those : Members). members_after_all o those more) here.members_are
          ∙ sym (members-append o [] calls more);
    }

-- and these calls are answered as the register answers them
pub reached-answers :
    (o : Opening) (calls : List Call) (t : Table) (ms : Members) (more : List Call) → Reached o calls t ms →
    answers_from t more ≡ answers o (records_of ms) more
reached-answers o calls t ms more here =
    (agreement_after o t ms more (reached_holds o calls t ms here) (reached-tallies o calls t ms here).0).answers-same
