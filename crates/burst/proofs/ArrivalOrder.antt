-- Order of arrival (document 02, E8) of reports in a burst, and of bursts: what a burst shows is a function of its
-- calls' answers (`Brings`), and the calls may be exchanged.
use Prim.Native.Nat.{ℕ}
use mathlib.Core.Bool.{Bool, true, false, cond}
use mathlib.Core.List.{List, [], ◌∷◌, ◌++◌}
use mathlib.Core.Path.{◌≡◌, refl, sym, ap, ◌∙◌}
use lib.Dec.{eqb}
use lib.ListN.{length, drop, length-append}
use Rattle.register.specs.declared.Record.{Record}
use Rattle.register.specs.declared.Reading.{Reading}
use Rattle.register.specs.Register.{Call}
use Rattle.table.specs.declared.Table.{Table}
use Rattle.table.specs.History.{answers_from, table_from}
use Rattle.table.specs.ArrivalOrder.{AlikeButPlaces}
use Rattle.table.proofs.ArrivalOrder.{reached_agreement, two_sources, alike_same, Brings, results_in_either_order}
use Rattle.table.proofs.ArrivalOrder.{exchanged_between}
use Rattle.burst.specs.Burst.{report_calls, burst_number, burst_answered, burst_answers_after}
use Rattle.burst.specs.ArrivalOrder.{burst_result, EveryTwoInBurst, EveryTwoBursts}
use Rattle.burst.proofs.Laws.{length-report_calls}

-- a burst is its calls, where they are tried
burst_brings :
    (reports : List Record) (at : Reading) (lent : List ℕ) →
    Brings (burst_result reports at lent) (report_calls at reports)
unfolding burst_answered burst_answers_after
burst_brings reports at lent =
    record {
      made = eqb (burst_number (length reports) (length lent)) 0;
      show = λ numbers. (
        burst_number (length reports) (length lent),
        cond (eqb (burst_number (length reports) (length lent)) 0)
            (numbers ++ drop (length (report_calls at reports)) lent)
            lent,
      );
      seen = λ t. refl;
      table = λ t. refl;
    }

pub every_two_bursts : EveryTwoBursts
every_two_bursts o calls t ms reached xs ys at then lent others apart all =
    results_in_either_order o t ms (reached_agreement o calls t ms reached) (burst_result xs at lent)
    (burst_result ys then others) (report_calls at xs) (report_calls then ys) (burst_brings xs at lent)
    (burst_brings ys then others) apart all

-- ---- in one burst

calls_append :
    (at : Reading) (xs ys : List Record) → report_calls at (xs ++ ys) ≡ report_calls at xs ++ report_calls at ys
unfolding report_calls
calls_append at [] ys = refl
calls_append at (x ∷ xs) ys = ap (λ (calls : List Call). Call.report x at ∷ calls) (calls_append at xs ys)

-- bursts as long as each other, whose calls have the same answers and leave tables that differ in places alone
alike_bursts :
    (t : Table) (reports others : List Record) (at : Reading) (lent : List ℕ) → length reports ≡ length others →
    answers_from t (report_calls at reports) ≡ answers_from t (report_calls at others) →
    AlikeButPlaces (table_from t (report_calls at reports)) (table_from t (report_calls at others)) →
    let result = burst_result reports at lent t in
    let exchanged = burst_result others at lent t in
    (result.seen ≡ exchanged.seen) × AlikeButPlaces result.table exchanged.table
unfolding burst_answered burst_answers_after
alike_bursts t reports others at lent long numbers alike =
    rw (length-report_calls at reports, length-report_calls at others, long, numbers)
    (refl, go (eqb (burst_number (length others) (length lent)) 0))
  where
    go :
        (b : Bool) →
        AlikeButPlaces (cond b (table_from t (report_calls at reports)) t)
        (cond b (table_from t (report_calls at others)) t)
    go true = alike
    go false = alike_same t

pub every_two_in_burst : EveryTwoInBurst
unfolding report_calls
every_two_in_burst o calls t ms reached before x y behind at lent apart all =
    let both : _ =
    exchanged_between o t ms (reached_agreement o calls t ms reached) (report_calls at before)
    (Call.report x at ∷ []) (Call.report y at ∷ []) (report_calls at behind) (two_sources x y at at apart) all in
    let made : report_calls at (before ++ x ∷ y ∷ behind)
    ≡ report_calls at before ++ (Call.report x at ∷ Call.report y at ∷ report_calls at behind) =
    calls_append at before (x ∷ y ∷ behind) in
    let exchanged : report_calls at (before ++ y ∷ x ∷ behind)
    ≡ report_calls at before ++ (Call.report y at ∷ Call.report x at ∷ report_calls at behind) =
    calls_append at before (y ∷ x ∷ behind) in
    alike_bursts t (before ++ x ∷ y ∷ behind) (before ++ y ∷ x ∷ behind) at lent
    (length-append before (x ∷ y ∷ behind) ∙ sym (length-append before (y ∷ x ∷ behind)))
    (rw (made, exchanged) both.0)
    (rw (made, exchanged) both.1)
