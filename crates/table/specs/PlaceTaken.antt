-- Document 01, "a new member takes the lowest free place", and document 02, E4 and E5, over what the public calls
-- answer and show: the member at each place before a report and after it (theorem: proofs/PlaceTaken.antt). Which
-- reports are accepted is demand 3's (History). `answered` and `place_at` stand for what `Table::report` and
-- `Table::member_at` answer.
use Rattle.std.specs.Prelude.{ℕ, ◌<◌, List, ◌≡◌}
use Rattle.refusals.specs.Refusals.{no_room}
use Rattle.register.specs.declared.Record.{Record}
use Rattle.register.specs.declared.Member.{Member}
use Rattle.register.specs.declared.Reading.{Reading}
use Rattle.register.specs.declared.Opening.{Opening}
use Rattle.register.specs.Register.{Call}
use Rattle.register.specs.Tallies.{Members}
use Rattle.table.specs.declared.Table.{Table}
use Rattle.table.specs.Members.{place_at}
use Rattle.table.specs.Calls.{answered}
use Rattle.table.specs.History.{Reached}

-- a place shows a member
abbrev pub ShowsMember : Table → ℕ → Type 0
ShowsMember t place = (place_at t place).held ≡ 1

-- every place below k shows a member
abbrev pub AllShown : ℕ → Table → Type 0
AllShown k t = (place : ℕ) → place < k → ShowsMember t place

-- r is the lowest of the 64 places that shows no member
abbrev pub LowestShownFree : Table → ℕ → Type 0
LowestShownFree t r = (r < 64) × ((place_at t r).held ≡ 0) × AllShown r t

-- a number that no place shows
abbrev pub IsNew : Table → ℕ → Type 0
IsNew t source = (place : ℕ) → ShowsMember t place → (place_at t place).member.«record».source ≡ source → ⊥

-- afterwards place r shows m, and every other place what it showed before
abbrev pub OnlyAt : ℕ → Member → (before then : Table) → Type 0
OnlyAt r m before then =
    (place_at then r ≡ record { held = 1; member = m })
    × ((place : ℕ) → (place ≡ r → ⊥) → place_at then place ≡ place_at before place)

-- an accepted report of a new number stands at the lowest place that showed no member, so that none is accepted where
-- all show one, and its tally is 0; one of a member's number stands at that member's place, with that member's tally;
-- and 18 is given to a new number alone, where all 64 places show a member. Refused reports: see Refused.
pub record PlaceTaken (t : Table) (x : Record) (at : Reading) : Type 0 where
  pub new :
      (answered t (Call.report x at)).number ≡ 0 → IsNew t x.source →
      (r : ℕ) × LowestShownFree t r
      × OnlyAt r (record { «record» = x; tally = 0 }) t (answered t (Call.report x at)).table
  pub own :
      (answered t (Call.report x at)).number ≡ 0 → (r : ℕ) → ShowsMember t r →
      (place_at t r).member.«record».source ≡ x.source →
      OnlyAt r (record { «record» = x; tally = (place_at t r).member.tally }) t (answered t (Call.report x at)).table
  pub full : (answered t (Call.report x at)).number ≡ no_room → IsNew t x.source × AllShown 64 t

-- whatever the opening, the list of calls and the table that they leave
abbrev pub EveryReport : Type 0
EveryReport =
    (o : Opening) (calls : List Call) (t : Table) (members : Members) → Reached o calls t members →
    (x : Record) (at : Reading) → PlaceTaken t x at
