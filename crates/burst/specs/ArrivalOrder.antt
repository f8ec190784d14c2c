-- Document 02, E8, of bursts: two reports that stand next to each other in a burst may stand in either order, and two
-- bursts may come in either order (theorems: proofs/ArrivalOrder.antt).
--
-- To be believed besides: of `table` ArrivalOrder, with what its head names; `report_calls` (Burst). `burst_answered` and
-- `burst_answers_after` stand for what `prunepocket_report_burst` answers and what it leaves in the lent list.
use Rattle.std.specs.Prelude.{ℕ, List, [], ◌∷◌, ◌++◌, ◌≡◌}
use Rattle.register.specs.declared.Record.{Record}
use Rattle.register.specs.declared.Reading.{Reading}
use Rattle.register.specs.declared.Opening.{Opening}
use Rattle.register.specs.Register.{Call}
use Rattle.register.specs.Tallies.{Members}
use Rattle.register.specs.ArrivalOrder.{AllAccepted, AllFromDifferentSources}
use Rattle.table.specs.declared.Table.{Table}
use Rattle.table.specs.History.{answers_from, table_from, Reached}
use Rattle.table.specs.ArrivalOrder.{AlikeButPlaces, CallResult, ResultsInEitherOrder}
use Rattle.burst.specs.Burst.{report_calls, burst_answered, burst_answers_after}

-- a burst's answer and its lent list afterwards, and the table
abbrev pub burst_result : List Record → Reading → List ℕ → Table → CallResult (ℕ × List ℕ)
burst_result reports at lent t =
    record {
      seen = ((burst_answered t reports at lent).number, burst_answers_after t reports at lent);
      table = (burst_answered t reports at lent).table;
    }

-- from every reached table, of every burst in which x and y, from different source numbers, stand one after the other
-- and, as single calls behind the reports before them, are both accepted: in the other order it shows the same, and
-- leaves a table that differs in places alone
abbrev pub EveryTwoInBurst : Type 0
EveryTwoInBurst =
    (o : Opening) (calls : List Call) (t : Table) (members : Members) → Reached o calls t members →
    (before : List Record) (x y : Record) (behind : List Record) (at : Reading) (lent : List ℕ) →
    (x.source ≡ y.source → ⊥) →
    AllAccepted (answers_from (table_from t (report_calls at before)) (Call.report x at ∷ Call.report y at ∷ [])) →
    let result = burst_result (before ++ x ∷ y ∷ behind) at lent t in
    let exchanged = burst_result (before ++ y ∷ x ∷ behind) at lent t in
    (result.seen ≡ exchanged.seen) × AlikeButPlaces result.table exchanged.table

-- of any two bursts, each with its own reading, whose reports, as single calls, are all accepted one after the other,
-- no source number in both
abbrev pub EveryTwoBursts : Type 0
EveryTwoBursts =
    (o : Opening) (calls : List Call) (t : Table) (members : Members) → Reached o calls t members →
    (xs ys : List Record) (at then : Reading) (lent others : List ℕ) →
    AllFromDifferentSources (report_calls at xs) (report_calls then ys) →
    AllAccepted (answers_from t (report_calls at xs ++ report_calls then ys)) →
    ResultsInEitherOrder t (burst_result xs at lent) (burst_result ys then others)
