-- Demand 3 of a burst: a burst that is taken is its reports as calls, one by one, in list order. From a reached table
-- it hands back a reached one, and what it puts into the lent list are the register's answers; so all that History and
-- Letter say of a table that calls reach, they say of one that bursts leave.
-- To be believed besides: `report_calls` (Burst). Which bursts are taken, and that a refused one leaves the table as it
-- was, so that it is reached by the calls before alone: see Singles.
use Rattle.std.specs.Prelude.{ℕ, ◌≡◌, List, [], ◌++◌, length, drop}
use Rattle.register.specs.declared.Record.{Record}
use Rattle.register.specs.declared.Reading.{Reading}
use Rattle.register.specs.declared.Opening.{Opening}
use Rattle.register.specs.Register.{Call, answers}
use Rattle.register.specs.Tallies.{Members, members_after_all}
use Rattle.register.specs.Promise.{AllInRange}
use Rattle.table.specs.declared.Table.{Table}
use Rattle.table.specs.History.{Reached}
use Rattle.burst.specs.Burst.{report_calls, burst_answered, burst_answers_after}

-- a table that calls reached; a burst's reports and reading; and the list lent for the numbers
module _
    (o : Opening) (calls : List Call) (t : Table) (members : Members)
    (reports : List Record) (at : Reading) (lent : List ℕ) where
  -- every report is tried
  pub record AllTried : Type 0 where
    -- the table is reached by the calls before and then the burst's
    pub reached :
        Reached o (calls ++ report_calls at reports) (burst_answered t reports at lent).table
        (members_after_all o members (report_calls at reports))
    -- the register's answers to them, which are behind those to the calls before, are put into the list; behind them
    -- it is as it was
    pub numbers :
        burst_answers_after t reports at lent
        ≡ drop (length calls) (answers o [] (calls ++ report_calls at reports)) ++ drop (length reports) lent

-- from every reached table, of every burst that is taken; received times have 64 bits by their type
abbrev pub EveryBurstReached : Type 0
EveryBurstReached =
    (o : Opening) (calls : List Call) (t : Table) (members : Members) → Reached o calls t members →
    (reports : List Record) (at : Reading) → AllInRange (report_calls at reports) → (lent : List ℕ) →
    (burst_answered t reports at lent).number ≡ 0 → AllTried o calls t members reports at lent
