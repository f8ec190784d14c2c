-- Laws of a burst, report by report: what the loop over the lent records has after n of them, and that it ends with
-- what the definitions say.
use Prim.Native.Nat.{ℕ, zero, suc, ◌≤◌}
use mathlib.Core.Bool.{Bool, true, false}
use mathlib.Core.List.{List, [], ◌∷◌}
use mathlib.Core.Path.{◌≡◌, refl, sym, ap, subst, ◌∙◌}
use lib.Dec.{ltb}
use lib.ListN.{length, set, length-set}
use native.Mathlib.Nat.{not-suc-le-zero, le_of_suc-le-suc}
use borrow.Author.Tests.{ltb-false, ne_eqb}
use Rattle.std.specs.Prelude.{Result, Ok, Err}
use Rattle.std.specs.Result.{result_and}
use Rattle.refusals.specs.declared.RefusalNumber.{RefusalNumber}
use Rattle.refusals.specs.Refusals.{refusal_number}
use Rattle.refusals.proofs.Laws.{number_positive}
use Rattle.register.specs.declared.Record.{Record}
use Rattle.register.specs.declared.Reading.{Reading}
use Rattle.register.specs.Register.{Call}
use Rattle.table.specs.declared.Table.{Table}
use Rattle.table.specs.declared.Answered.{Answered}
use Rattle.table.specs.Calls.{answered}
use Rattle.table.specs.History.{answers_from, table_from}
use Rattle.table.specs.Numbers.{numbers_into}
use Rattle.burst.specs.Burst.{report_calls, burst_limit, burst_checks, burst_checked}
use Rattle.burst.specs.Burst.{burst_answered, burst_answers_after}
use Rattle.burst.specs.Singles.{record_at, after_singles, single_number}

pub length-report_calls : (at : Reading) (reports : List Record) → length (report_calls at reports) ≡ length reports
unfolding report_calls
length-report_calls at [] = refl
length-report_calls at (x ∷ xs) = ap suc (length-report_calls at xs)

-- ---- after n reports

-- the lent list
unfoldable pub list_after : Table → List Record → Reading → List ℕ → ℕ → List ℕ
list_after t reports at lent zero = lent
list_after t reports at lent (suc n) = set (list_after t reports at lent n) n (single_number t reports at n)

module _ (t : Table) (reports : List Record) (at : Reading) where
  pub table_next :
      (n : ℕ) →
      after_singles t reports at (suc n)
      ≡ (answered (after_singles t reports at n) (Call.report (record_at reports n) at)).table
  unfolding after_singles
  table_next n = refl

  module _ (lent : List ℕ) where
    pub list_next :
        (n : ℕ) →
        list_after t reports at lent (suc n) ≡ set (list_after t reports at lent n) n (single_number t reports at n)
    unfolding list_after
    list_next n = refl

    pub length-list : (n : ℕ) → length (list_after t reports at lent n) ≡ length lent
    unfolding list_after
    length-list zero = refl
    length-list (suc n) =
        length-set (list_after t reports at lent n) n (single_number t reports at n) ∙ length-list n

-- ---- after all of them

module _ (at : Reading) where
  -- the first report, as a call by itself
  abbrev first : Table → Record → Answered
  first t x = answered t (Call.report x at)

  table_front :
      (t : Table) (x : Record) (xs : List Record) (n : ℕ) →
      after_singles t (x ∷ xs) at (suc n) ≡ after_singles (first t x).table xs at n
  unfolding after_singles
  table_front t x xs zero = refl
  table_front t x xs (suc n) =
      ap (λ (u : Table). (answered u (Call.report (record_at xs n) at)).table) (table_front t x xs n)

  pub number_front :
      (t : Table) (x : Record) (xs : List Record) (n : ℕ) →
      single_number t (x ∷ xs) at (suc n) ≡ single_number (first t x).table xs at n
  number_front t x xs n = ap (λ (u : Table). (answered u (Call.report (record_at xs n) at)).number) (table_front t x xs n)

  list_front :
      (t : Table) (x : Record) (xs : List Record) (y : ℕ) (ys : List ℕ) (n : ℕ) →
      list_after t (x ∷ xs) at (y ∷ ys) (suc n) ≡ (first t x).number ∷ list_after (first t x).table xs at ys n
  unfolding list_after after_singles
  list_front t x xs y ys zero = refl
  list_front t x xs y ys (suc n) =
      ap (λ (l : List ℕ). set l (suc n) (single_number t (x ∷ xs) at (suc n))) (list_front t x xs y ys n)
      ∙ ap (λ (k : ℕ). (first t x).number ∷ set (list_after (first t x).table xs at ys n) n k) (number_front t x xs n)

  pub table-all :
      (t : Table) (reports : List Record) →
      after_singles t reports at (length reports) ≡ table_from t (report_calls at reports)
  unfolding after_singles table_from report_calls
  table-all t [] = refl
  table-all t (x ∷ xs) = table_front t x xs (length xs) ∙ table-all (first t x).table xs

  pub list_all :
      (t : Table) (reports : List Record) (lent : List ℕ) → length reports ≤ length lent →
      list_after t reports at lent (length reports) ≡ numbers_into t (report_calls at reports) lent
  unfolding list_after answers_from report_calls
  list_all t [] lent h = refl
  list_all t (x ∷ xs) [] h = absurd (not-suc-le-zero h)
  list_all t (x ∷ xs) (y ∷ ys) h =
      list_front t x xs y ys (length xs)
      ∙ ap (λ (l : List ℕ). (first t x).number ∷ l) (list_all (first t x).table xs ys (le_of_suc-le-suc h))

-- ---- the burst

-- a list is long enough where the burst is taken
list_enough : (reports list_length : ℕ) → burst_checks reports list_length ≡ Ok tt → reports ≤ list_length
unfolding burst_checks
list_enough reports list_length e = go (ltb burst_limit reports) refl (ltb list_length reports) refl
  where
    go : (p : Bool) → ltb burst_limit reports ≡ p → (q : Bool) → ltb list_length reports ≡ q → reports ≤ list_length
    go true h q k = let wrong : burst_checks reports list_length ≡ Err RefusalNumber.LongBurst = rw h refl in absurd (cc)
    go false h true k =
        let wrong : burst_checks reports list_length ≡ Err RefusalNumber.ShortAnswers = rw (h, k) refl in
        absurd (cc)
    go false h false k = ltb-false list_length reports k

-- what a burst that is taken or refused says of its checks
taken_by :
    (r : Result Unit RefusalNumber) (reports tried : ℕ) → Ok tried ≡ result_and r (Ok reports) →
    (r ≡ Ok tt) × (tried ≡ reports)
taken_by (Ok passed) reports tried e = (refl, cc)
taken_by (Err refused) reports tried e = absurd (cc)

refused_by :
    (r : Result Unit RefusalNumber) (reports : ℕ) (refused : RefusalNumber) → Err refused ≡ result_and r (Ok reports) →
    r ≡ Err refused
refused_by (Ok passed) reports refused e = absurd (cc)
refused_by (Err number) reports refused e = let same : number ≡ refused = cc in ap Err same

module _ (reports : List Record) (lent : List ℕ) where
  -- as many are tried as there are, and the list is no shorter
  pub tried_all :
      (tried : ℕ) → Ok tried ≡ burst_checked (length reports) (length lent) →
      (tried ≡ length reports) × (tried ≤ length lent)
  tried_all tried e =
      let both = taken_by (burst_checks (length reports) (length lent)) (length reports) tried e in
      (both.1, subst (λ (n : ℕ). n ≤ length lent) (sym both.1) (list_enough (length reports) (length lent) both.0))

  module _ (t : Table) (at : Reading) where
    -- taken, what the loop leaves after all of them
    pub burst-taken :
        (tried : ℕ) → Ok tried ≡ burst_checked (length reports) (length lent) →
        (◌≡◌ {A = Answered} (record { number = 0; table = after_singles t reports at tried })
        (burst_answered t reports at lent))
        × (list_after t reports at lent tried ≡ burst_answers_after t reports at lent)
    unfolding burst_answered burst_answers_after
    burst-taken tried e =
        let both = taken_by (burst_checks (length reports) (length lent)) (length reports) tried e in
        let enough : length reports ≤ length lent = list_enough (length reports) (length lent) both.0 in
        rw (both.1, both.0) (
          ap (λ (u : Table). record { number = 0; table = u }) (table-all at t reports),
          list_all at t reports lent enough,
        )

    -- refused, table and list are as they were
    pub burst-refused :
        (refused : RefusalNumber) → Err refused ≡ burst_checked (length reports) (length lent) →
        (◌≡◌ {A = Answered} (record { number = refusal_number refused; table = t }) (burst_answered t reports at lent))
        × (lent ≡ burst_answers_after t reports at lent)
    unfolding burst_answered burst_answers_after
    burst-refused refused e =
        let is = refused_by (burst_checks (length reports) (length lent)) (length reports) refused e in
        let some = ne_eqb (refusal_number refused) 0 (number_positive refused) in
        rw (is, some) (refl, refl)
