-- Document 02, E6, in its own words over single calls: table and answers are those of the single calls in list order, a
-- refused report does not stop the rest, and places of the list behind the reports stay as they were (theorems:
-- proofs/Theorems.antt). Of every table value, every list of reports and every list lent.
--
-- To be believed besides: of `refusals` Refusals 23 and 24. Nothing of Burst: `burst_answered` and `burst_answers_after`
-- stand for what `prunepocket_report_burst` answers and what it leaves in the lent list, `answered` for what
-- `Table::report` answers.
use Rattle.std.specs.Prelude.{ℕ, zero, suc, ◌≤◌, ◌<◌, ◌≡◌, List, [], length, get_or}
use Rattle.refusals.specs.Refusals.{long_burst, short_answers}
use Rattle.register.specs.declared.Record.{Record}
use Rattle.register.specs.declared.Reading.{Reading}
use Rattle.register.specs.Register.{Call}
use Rattle.choosing.specs.Marked.{nowhere}
use Rattle.table.specs.declared.Table.{Table}
use Rattle.table.specs.Calls.{answered}
use Rattle.burst.specs.Burst.{burst_answered, burst_answers_after}

-- ---- single calls

-- the report at an index; every index below the list's length has one, so that the default is never seen
abbrev pub record_at : List Record → ℕ → Record
record_at reports n = get_or reports n nowhere

-- the table after the first n reports: each is a single call, on the table that the one before handed back
unfoldable pub after_singles : Table → List Record → Reading → ℕ → Table
after_singles t reports at zero = t
after_singles t reports at (suc n) = (answered (after_singles t reports at n) (Call.report (record_at reports n) at)).table

-- what the single call with the report at an index answers: a refusal's number, or 0 for accepted
abbrev pub single_number : Table → List Record → Reading → ℕ → ℕ
single_number t reports at n = (answered (after_singles t reports at n) (Call.report (record_at reports n) at)).number

-- ---- a burst

module _ (t : Table) (reports : List Record) (at : Reading) (lent : List ℕ) where
  -- taken: table and answers are those of the single calls, and behind them the list is as it was
  pub record AsSingles : Type 0 where
    pub number : (burst_answered t reports at lent).number ≡ 0
    pub table : (burst_answered t reports at lent).table ≡ after_singles t reports at (length reports)
    pub numbers :
        (n : ℕ) → n < length reports → get_or (burst_answers_after t reports at lent) n 0 ≡ single_number t reports at n
    pub behind : (n : ℕ) → length reports ≤ n → get_or (burst_answers_after t reports at lent) n 0 ≡ get_or lent n 0
    pub same_length : length (burst_answers_after t reports at lent) ≡ length lent

  -- answered with this number, everything is unchanged, tallies included
  pub record Unchanged (answer : ℕ) : Type 0 where
    pub number : (burst_answered t reports at lent).number ≡ answer
    pub table : (burst_answered t reports at lent).table ≡ t
    pub list : burst_answers_after t reports at lent ≡ lent

  -- 23 for more than 64 reports, whatever the list; then 24 for a list shorter than the reports; every other burst is
  -- taken
  pub record BurstRules : Type 0 where
    pub long : 64 < length reports → Unchanged long_burst
    pub short : length reports ≤ 64 → length lent < length reports → Unchanged short_answers
    pub rest : length reports ≤ 64 → length reports ≤ length lent → AsSingles

-- the request
abbrev pub EveryBurst : Type 0
EveryBurst = (t : Table) (reports : List Record) (at : Reading) (lent : List ℕ) → BurstRules t reports at lent

-- the empty burst is taken whatever the list, and changes nothing
abbrev pub EmptyBurst : Type 0
EmptyBurst = (t : Table) (at : Reading) (lent : List ℕ) → Unchanged t [] at lent 0
