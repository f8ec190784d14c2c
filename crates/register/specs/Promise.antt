-- What demand 3 says of the register's rows and of its choice at a reading.
use Rattle.std.specs.Prelude.{ℕ, ◌^◌, ◌≤◌, ◌<◌, ◌≡◌, ℤ, length, ◌≤ℤ◌, Result, Ok, Err}
use mathlib.Core.List.{List, [], ◌∷◌, Memᴰ}
use Rattle.refusals.specs.declared.RefusalNumber.{RefusalNumber}
use Rattle.register.specs.declared.Record.{Record}
use Rattle.register.specs.declared.Reading.{Reading}
use Rattle.register.specs.declared.Target.{Target}
use Rattle.register.specs.declared.Opening.{Opening}
use Rattle.register.specs.Register.{Rows, Call, filter, has_number}
use Rattle.register.specs.Choosing.{fresh, counted, lateness_of, target_lateness, moment}

-- no number has two rows
abbrev pub Unique : Rows → Type 0
Unique rows = (source : ℕ) → length (filter (has_number source) rows) ≤ 1

-- a report's received time has 64 bits: the only range that demand 3 needs
abbrev pub InRange : Call → Type 0
InRange (Call.report x at) = x.report.received < 2 ^ 64
InRange (Call.farewell source origin) = Unit
InRange (Call.sweep at) = Unit

unfoldable pub AllInRange : List Call → Type 0
AllInRange [] = Unit
AllInRange (call ∷ calls) = InRange call × AllInRange calls

-- a lateness asks no counted row for a sample earlier: for every k, its moment is not before the row's
abbrev pub AsksNoneEarlier : Opening → Reading → Rows → ℤ → Type 0
AsksNoneEarlier o at rows late =
    (row : Record) → Memᴰ row (counted o at rows) → (k : ℤ) →
    moment (lateness_of o at row) k ≤ℤ moment late k

-- the lateness of some counted row's own report
abbrev pub IsReported : Opening → Reading → Rows → ℤ → Type 0
IsReported o at rows late =
    (row : Record) × Memᴰ row (counted o at rows) × (lateness_of o at row ≡ late)

-- a target asks no counted row for a sample earlier, any other such lateness is at least as late, it is that of some
-- counted row's own report, and it is withheld, with 20, exactly when no row is fresh
unfoldable pub Promised : Opening → Reading → Rows → Result Target RefusalNumber → Type 0
Promised o at rows (Ok x) =
    AsksNoneEarlier o at rows (target_lateness o at x)
    × ((late : ℤ) → AsksNoneEarlier o at rows late → target_lateness o at x ≤ℤ late)
    × IsReported o at rows (target_lateness o at x)
    × (fresh o at rows ≡ [] → ⊥)
Promised o at rows (Err refused) = (refused ≡ RefusalNumber.NoneCounted) × (fresh o at rows ≡ [])
