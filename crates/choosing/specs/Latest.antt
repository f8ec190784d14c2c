-- Choosing by one walk over the counted rows. Not the papers' statement: the laws show that it gives the row of
-- `chosen`.
use Rattle.std.specs.Prelude.{cond, [], ◌∷◌, ℤ, Option, Some, None}
use Rattle.register.specs.declared.Record.{Record}
use Rattle.register.specs.Register.{Rows}
use Rattle.register.specs.Choosing.{precedes}

-- the latest row, and of the lowest number among equals: each row in turn against the latest so far
unfoldable pub latest : (Record → ℤ) → Record → Rows → Record
latest late a [] = a
latest late a (b ∷ rows) = latest late (cond (precedes late a b) a b) rows

-- the latest of all rows, if there is one
unfoldable pub latest_of : (Record → ℤ) → Rows → Option Record
latest_of late [] = None
latest_of late (row ∷ rows) = Some (latest late row rows)
