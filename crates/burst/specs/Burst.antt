-- Document 02, E6: a whole burst of reports at once. Each report is a call under the burst's one reading, in list
-- order, and its answer goes into a lent list, 0 for accepted. 23 and 24 come before any report is tried, and change
-- nothing.
use Rattle.std.specs.Prelude.{ℕ, cond, List, [], ◌∷◌, ltb, eqb, length, Result, Ok, Err}
use Rattle.std.specs.Result.{result_and}
use Rattle.refusals.specs.declared.RefusalNumber.{RefusalNumber}
use Rattle.refusals.specs.Refusals.{answer_number}
use Rattle.register.specs.declared.Record.{Record}
use Rattle.register.specs.declared.Reading.{Reading}
use Rattle.register.specs.Register.{Call}
use Rattle.table.specs.declared.Table.{Table}
use Rattle.table.specs.declared.Answered.{Answered}
use Rattle.table.specs.History.{table_from}
use Rattle.table.specs.Numbers.{numbers_into}

-- the reports as calls
unfoldable pub report_calls : Reading → List Record → List Call
report_calls at [] = []
report_calls at (x ∷ xs) = Call.report x at ∷ report_calls at xs

-- ---- before any report is tried

-- the most reports that a burst may have
abbrev pub burst_limit : ℕ
burst_limit = 64

-- the first check that applies, if any does, for so many reports and a lent list of such a length
unfoldable pub burst_checks : ℕ → ℕ → Result Unit RefusalNumber
burst_checks reports list_length =
    cond (ltb burst_limit reports) (Err RefusalNumber.LongBurst)
    (cond (ltb list_length reports) (Err RefusalNumber.ShortAnswers)
    (Ok tt))

-- and how many reports are tried: all of them, unless a check applies
abbrev pub burst_checked : ℕ → ℕ → Result ℕ RefusalNumber
burst_checked reports list_length = result_and (burst_checks reports list_length) (Ok reports)

-- the burst's own number, 0 where it is taken
abbrev pub burst_number : ℕ → ℕ → ℕ
burst_number reports list_length = answer_number (burst_checks reports list_length)

-- ---- the burst

-- what it answers, and the table afterwards:
-- taken, it leaves the table that the single calls leave, and a refused report does not stop the rest;
-- refused, it leaves the table as it was
unfoldable pub burst_answered : Table → List Record → Reading → List ℕ → Answered
burst_answered t reports at lent =
    let number = burst_number (length reports) (length lent) in
    record { number = number; table = cond (eqb number 0) (table_from t (report_calls at reports)) t }

-- and the lent list afterwards
unfoldable pub burst_answers_after : Table → List Record → Reading → List ℕ → List ℕ
burst_answers_after t reports at lent =
    cond (eqb (burst_number (length reports) (length lent)) 0) (numbers_into t (report_calls at reports) lent) lent
