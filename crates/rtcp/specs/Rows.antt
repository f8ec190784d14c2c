-- All items of a datagram in an array of numbers, ten an item.
use Rattle.std.specs.Prelude.{ℕ, ◌+◌, ◌*◌, ◌≤◌, ◌≡◌, List, ◌++◌, Bool, cond, length, drop, ltb}
use Rattle.std.specs.Prelude.{Result, Ok, Err}
use Rattle.idms.specs.declared.Refusal.{Refusal}
use Rattle.refusals.specs.declared.RefusalNumber.{RefusalNumber}
use Rattle.idms.specs.Rows.{row_of}
use Rattle.idms.specs.declared.Placed.{Placed}
use Rattle.packet.specs.declared.contents.Packet.{Packet}
use Rattle.packet.specs.Checks.{Check, passed, refused}
use Rattle.datagram.specs.Datagram.{datagram_check, datagram_items}
use Rattle.datagram.specs.Answers.{refusal}
use Rattle.rtcp.specs.Puts.{flat, puts}

-- the rows of items, one behind the other
abbrev pub rows_of : List Placed → List ℕ
rows_of items = flat row_of items

-- an array with the rows of items put into it, the first at a cell
abbrev pub put : List ℕ → ℕ → List Placed → List ℕ
put rows at items = puts row_of 10 rows at items

-- the array has no room for n rows
abbrev pub too_short : ℕ → List ℕ → Bool
too_short n rows = ltb (length rows) (10 * n)

-- the answer: how many items, or the datagram's refusal, or 10 at place 0
abbrev pub rows_unless : Check → List Placed → List ℕ → Result ℕ Refusal
rows_unless (refused number place) items rows = Err (refusal number place)
rows_unless passed items rows =
    cond (too_short (length items) rows) (Err (refusal RefusalNumber.ShortBuffer 0)) (Ok (length items))

-- the array afterwards: as before on any refusal; else the rows, and behind them what was there
abbrev pub filled_unless : Check → List Placed → List ℕ → List ℕ
filled_unless (refused number place) items rows = rows
filled_unless passed items rows =
    cond (too_short (length items) rows) rows (rows_of items ++ drop (10 * length items) rows)

unfoldable pub rows_answer : Bool → List ℕ → List ℕ → Result ℕ Refusal
rows_answer reduced d rows = rows_unless (datagram_check reduced d) (datagram_items d) rows

unfoldable pub rows_after : Bool → List ℕ → List ℕ → List ℕ
rows_after reduced d rows = filled_unless (datagram_check reduced d) (datagram_items d) rows

-- ---- for the functions that put them

-- the array has room for the rows of items from a cell on
abbrev pub HasRoom : List ℕ → ℕ → List Placed → Type 0
HasRoom rows at items = at + 10 * length items ≤ length rows

-- the rows of items have been put from a cell on, up to the cell that comes next
abbrev pub ArePut : List ℕ → ℕ → List Placed → ℕ → List ℕ → Type 0
ArePut rows at items next after = (next ≡ at + 10 * length items) × (after ≡ put rows at items)

-- the place of the packet behind one
abbrev pub behind : Packet → ℕ
behind (Packet.Unread next) = next
behind (Packet.Sources first stop next) = next
behind (Packet.Blocks sender first stop next) = next
behind (Packet.Settings next) = next
