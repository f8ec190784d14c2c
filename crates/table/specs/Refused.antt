-- Document 02, E5: demand 1 as it reads from there, "unchanged but for the holder's tally after 14", and choosing,
-- which never looks at a tally (theorems: proofs/Refused.antt).
--
-- To be believed besides: of `register` Letter `FromTwin` and `tallied`; of PlaceTaken `ShowsMember` and `OnlyAt`; of
-- Members `opening_of` and `records_in`, which look into a table value. `answered`, `place_at` and `chosen_of` stand for
-- what the calls, `Table::member_at` and `Table::choose` answer.
use Rattle.std.specs.Prelude.{ℕ, ◌≡◌, length}
use Rattle.refusals.specs.Refusals.{other_origin}
use Rattle.register.specs.declared.Reading.{Reading}
use Rattle.register.specs.Register.{Call}
use Rattle.register.specs.Letter.{FromTwin, tallied}
use Rattle.table.specs.declared.Table.{Table}
use Rattle.table.specs.Members.{opening_of, records_in, place_at}
use Rattle.table.specs.Calls.{answered}
use Rattle.table.specs.Choose.{chosen_of}
use Rattle.table.specs.PlaceTaken.{ShowsMember, OnlyAt}

-- table values that are alike but for tallies: group, media source and rate, the places held, and every record
abbrev pub AlikeButTallies : Table → Table → Type 0
AlikeButTallies t u = (opening_of t ≡ opening_of u) × (t.held ≡ u.held) × (records_in t ≡ records_in u)

-- every refusal, 14 too, leaves all else as it was
abbrev pub LeavesRecords : Table → Call → Type 0
LeavesRecords t call = ((answered t call).number ≡ 0 → ⊥) → AlikeButTallies t (answered t call).table

-- a refusal other than 14 leaves the table as it was, tallies included
abbrev pub LeavesTable : Table → Call → Type 0
LeavesTable t call =
    ((answered t call).number ≡ 0 → ⊥) → ((answered t call).number ≡ other_origin → ⊥) → (answered t call).table ≡ t

-- 14 is given to a twin of a member that some place shows, and that member's tally is one higher afterwards, up to the
-- limit; every other place shows what it showed before
abbrev pub TalliesHolder : Table → Call → Type 0
TalliesHolder t call =
    (answered t call).number ≡ other_origin →
    (r : ℕ) × ShowsMember t r × FromTwin (place_at t r).member.«record» call
    × OnlyAt r (tallied other_origin (place_at t r).member) t (answered t call).table

-- of every table value and every call; that a table has 64 places is its type's
pub record EveryRefusal : Type 0 where
  pub records : (t : Table) (call : Call) → LeavesRecords t call
  pub others : (t : Table) (call : Call) → LeavesTable t call
  pub twins : (t : Table) → length t.members ≡ 64 → (call : Call) → TalliesHolder t call

-- tables that are alike but for tallies choose alike, at every reading
abbrev pub ChoosesWithoutTallies : Type 0
ChoosesWithoutTallies =
    (t u : Table) → AlikeButTallies t u → (at : Reading) → (chosen_of t at).choice ≡ (chosen_of u at).choice
