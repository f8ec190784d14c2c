-- One item's part of a datagram: whether it is a call, and which number its outcome leaves in the lent list.
use Rattle.std.specs.Prelude.{ℕ, ◌+◌, List, [], ◌∷◌}
use Rattle.std.specs.Prelude.{Option, Some, None}
use Rattle.idms.specs.declared.Item.{Item}
use Rattle.idms.specs.declared.Placed.{Placed}
use Rattle.origin.specs.declared.Origin.{Origin}
use Rattle.register.specs.declared.Reading.{Reading}
use Rattle.register.specs.Register.{Call}
use Rattle.rtcp.specs.declared.cursor.Cursor.{Cursor}
use Rattle.rtcp.specs.Cursor.{given}
use Rattle.intake.specs.Datagrams.{calls_in}

-- how many calls an item is
abbrev pub calls_of_item : Item → ℕ
calls_of_item (Item.Report r) = 1
calls_of_item (Item.Farewell source) = 1
calls_of_item (Item.Settings s) = 0

-- how many calls items are; under any origin and reading, `calls_in` has that length
unfoldable pub call_count : List Placed → ℕ
call_count [] = 0
call_count (x ∷ xs) = calls_of_item x.item + call_count xs

-- the calls of the next n items that a cursor gives
abbrev pub given_calls : ℕ → List ℕ → Cursor → Origin → Reading → List Call
given_calls n d c origin at = calls_in origin at (given n d c)

-- the number that an outcome has, if it has one
abbrev pub numbers_of : Option ℕ → List ℕ
numbers_of (Some n) = n ∷ []
numbers_of None = []
