-- The request in its own words over single calls, and demand 3 of a burst.
use Prim.Native.Nat.{ℕ, zero, suc, ◌≤◌, ◌<◌, zero-le}
use mathlib.Core.Bool.{true}
use mathlib.Core.List.{List, [], ◌∷◌, ◌++◌}
use mathlib.Core.Path.{◌≡◌, refl, sym, ap, ◌∙◌}
use lib.Dec.{eqb}
use lib.ListN.{length, get_or, drop}
use native.Mathlib.Nat.{not-suc-le-zero, le_of_suc-le-suc}
use native.Mathlib.Omega.{arith}
use borrow.Author.Tests.{lt-ltb, le-ltb, eq-eqb}
use Rattle.refusals.specs.Refusals.{long_burst, short_answers}
use Rattle.register.specs.declared.Record.{Record}
use Rattle.register.specs.declared.Reading.{Reading}
use Rattle.register.specs.Register.{Call, answers}
use Rattle.register.specs.Tallies.{records_of}
use Rattle.register.proofs.Tallies.{rows_after-all}
use Rattle.register.proofs.History.{answers-behind}
use Rattle.table.specs.declared.Table.{Table}
use Rattle.table.specs.Calls.{answered}
use Rattle.table.specs.History.{answers_from, table_from}
use Rattle.table.specs.Numbers.{numbers_into}
use Rattle.table.proofs.Agreement.Theorem.{reached_further, reached-answers}
use Rattle.burst.specs.Burst.{report_calls, burst_limit, burst_checks, burst_number, burst_answered, burst_answers_after}
use Rattle.burst.specs.Singles.{after_singles, single_number, EveryBurst, EmptyBurst}
use Rattle.burst.specs.Reaching.{EveryBurstReached}
use Rattle.burst.proofs.Laws.{length-report_calls, number_front, table-all}

-- ---- the list, place by place

-- the number at a place is the single call's
number_at :
    (t : Table) (reports : List Record) (at : Reading) (tail : List ℕ) (n : ℕ) → n < length reports →
    get_or (answers_from t (report_calls at reports) ++ tail) n 0 ≡ single_number t reports at n
unfolding report_calls answers_from after_singles
number_at t [] at tail n h = absurd (not-suc-le-zero h)
number_at t (x ∷ xs) at tail zero h = refl
number_at t (x ∷ xs) at tail (suc n) h =
    number_at (answered t (Call.report x at)).table xs at tail n (le_of_suc-le-suc h) ∙ sym (number_front at t x xs n)

-- behind the reports it is what was there
behind-at :
    (t : Table) (reports : List Record) (at : Reading) (lent : List ℕ) (n : ℕ) → length reports ≤ length lent →
    length reports ≤ n → get_or (numbers_into t (report_calls at reports) lent) n 0 ≡ get_or lent n 0
unfolding report_calls answers_from
behind-at t [] at lent n room h = refl
behind-at t (x ∷ xs) at [] n room h = absurd (not-suc-le-zero room)
behind-at t (x ∷ xs) at (y ∷ ys) zero room h = absurd (not-suc-le-zero h)
behind-at t (x ∷ xs) at (y ∷ ys) (suc n) room h =
    behind-at (answered t (Call.report x at)).table xs at ys n (le_of_suc-le-suc room) (le_of_suc-le-suc h)

length_into :
    (t : Table) (reports : List Record) (at : Reading) (lent : List ℕ) → length reports ≤ length lent →
    length (numbers_into t (report_calls at reports) lent) ≡ length lent
unfolding report_calls answers_from
length_into t [] at lent room = refl
length_into t (x ∷ xs) at [] room = absurd (not-suc-le-zero room)
length_into t (x ∷ xs) at (y ∷ ys) room =
    ap suc (length_into (answered t (Call.report x at)).table xs at ys (le_of_suc-le-suc room))

-- ---- the request

checks_long : (reports many : ℕ) → 64 < reports → burst_number reports many ≡ long_burst
unfolding burst_checks
checks_long reports many h = rw (lt-ltb burst_limit reports (omega arith)) refl

checks_short : (reports many : ℕ) → reports ≤ 64 → many < reports → burst_number reports many ≡ short_answers
unfolding burst_checks
checks_short reports many h k = rw (le-ltb burst_limit reports (omega arith), lt-ltb many reports k) refl

checks_none : (reports many : ℕ) → reports ≤ 64 → reports ≤ many → burst_number reports many ≡ 0
unfolding burst_checks
checks_none reports many h k = rw (le-ltb burst_limit reports (omega arith), le-ltb many reports k) refl

pub every_burst : EveryBurst
unfolding burst_answered burst_answers_after
every_burst t reports at lent =
    record {
      long = λ h.
          let e : burst_number (length reports) (length lent) ≡ long_burst = checks_long _ _ h in
          record { number = e; table = rw e refl; list = rw e refl };
      short = λ h k.
          let e : burst_number (length reports) (length lent) ≡ short_answers = checks_short _ _ h k in
          record { number = e; table = rw e refl; list = rw e refl };
      rest = λ h k.
          let e : burst_number (length reports) (length lent) ≡ 0 = checks_none _ _ h k in
          record {
            number = e;
            table = rw e (sym (table-all at t reports));
            numbers = λ n less. rw e (number_at t reports at _ n less);
            behind = λ n most. rw e (behind-at t reports at lent n k most);
            same_length = rw e (length_into t reports at lent k);
          };
    }

pub empty_burst : EmptyBurst
unfolding burst_answered burst_answers_after report_calls table_from answers_from
empty_burst t at lent =
    let e : burst_number 0 (length lent) ≡ 0 = checks_none 0 (length lent) zero-le zero-le in
    record { number = e; table = rw e refl; list = rw e refl }

-- ---- demand 3

pub burst_reached : EveryBurstReached
unfolding burst_answered burst_answers_after records_of
burst_reached o calls t ms here reports at ranges lent taken =
    let more = report_calls at reports in
    let none : eqb (burst_number (length reports) (length lent)) 0 ≡ true = eq-eqb _ 0 taken in
    let behind : drop (length calls) (answers o [] (calls ++ more)) ≡ answers o (records_of ms) more =
    rw (here.members_are, rows_after-all o [] calls) (answers-behind o calls more) in
    record {
      reached = rw none (reached_further o calls t ms more here ranges);
      numbers = rw (none, behind, reached-answers o calls t ms more here, length-report_calls at reports) refl;
    }
