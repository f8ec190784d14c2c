-- A cursor over the items of a datagram, and what it gives next. `open_datagram` opens one only on a datagram that is
-- not refused; from there, `cursor-in_turn` (proofs/Theorems.antt) says that it gives the datagram's items.
-- `first_cursor` is the same cursor, for a caller that has counted them. A call has no `requires`, so the definitions
-- speak of every cursor with every datagram. One that was opened on another datagram gives what it can read, which may
-- be items of a datagram that is refused, and ends where it cannot read on.
use Rattle.std.specs.Prelude.{ℕ, suc, zero, ◌+◌, ◌-◌, ◌*◌, List, [], ◌∷◌, ◌++◌, cond, length, leb}
use Rattle.std.specs.Prelude.{Option, Some, None, Result, Ok, Err}
use Rattle.refusals.specs.declared.RefusalNumber.{RefusalNumber}
use Rattle.idms.specs.declared.Item.{Item}
use Rattle.idms.specs.declared.Placed.{Placed}
use Rattle.idms.specs.declared.Report.{Report}
use Rattle.packet.specs.declared.contents.Packet.{Packet}
use Rattle.packet_checks.specs.declared.block.Block.{Block}
use Rattle.packet.specs.Report.{report_at}
use Rattle.packet.specs.Settings.{settings_item}
use Rattle.packet.specs.Answers.{packet_is, block_is, source_is}
use Rattle.datagram.specs.Datagram.{source_items, blocks_items, packets_items}
use Rattle.rtcp.specs.declared.cursor.State.{State}
use Rattle.rtcp.specs.declared.cursor.Cursor.{Cursor}
use Rattle.rtcp.specs.declared.cursor.Advance.{Advance}

-- the step at the packet at p, by what it holds
abbrev pub packet_step : List ℕ → ℕ → Option Packet → Option Advance
packet_step d p (Some (Packet.Unread next)) = Some (Advance.Onward (State.Packet next))
packet_step d p (Some (Packet.Sources first stop next)) = Some (Advance.Onward (State.Sources first stop next))
packet_step d p (Some (Packet.Blocks sender first stop next)) =
    Some (Advance.Onward (State.Blocks sender first stop next))
packet_step d p (Some (Packet.Settings next)) = Some (Advance.Item (settings_item d p) (State.Packet next))
packet_step d p None = None

-- the step at a source
abbrev pub source_step : ℕ → ℕ → ℕ → Option ℕ → Option Advance
source_step at stop next (Some source) =
    Some (Advance.Item (record { place = at; item = Item.Farewell source }) (State.Sources (at + 4) stop next))
source_step at stop next None = None

-- the step at a block, with the report's fields; the block of a report has 32 bytes
abbrev pub block_step : ℕ → ℕ → ℕ → ℕ → Result Block RefusalNumber → Report → Option Advance
block_step sender at stop next (Ok Block.Report) r =
    Some (Advance.Item (record { place = at; item = Item.Report r }) (State.Blocks sender (at + 32) stop next))
block_step sender at stop next (Ok (Block.Skipped bytes)) r =
    Some (Advance.Onward (State.Blocks sender (at + bytes) stop next))
block_step sender at stop next (Err number) r = None

-- one step, over a packet's head, a source or a block; behind the last of them comes the next packet
unfoldable pub advance : List ℕ → State → Option Advance
advance d (State.Packet p) = packet_step d p (packet_is d p)
advance d (State.Sources at stop next) =
    cond (leb stop at) (Some (Advance.Onward (State.Packet next))) (source_step at stop next (source_is d stop at))
advance d (State.Blocks sender at stop next) =
    cond (leb stop at) (Some (Advance.Onward (State.Packet next)))
    (block_step sender at stop next (block_is d stop at) (report_at d sender at))

-- What is left to step over. Every step that gives no item makes it smaller: a step over a block by its bytes; the step
-- from a packet's last part to the next packet by one; a step into a packet since its parts lie in it, and it counts
-- twice as long as they do.
abbrev pub left : List ℕ → State → ℕ
left d (State.Packet p) = 2 * (length d - p)
left d (State.Sources at stop next) = suc ((stop - at) + 2 * (length d - next))
left d (State.Blocks sender at stop next) = suc ((stop - at) + 2 * (length d - next))

abbrev pub cursor_at : State → Cursor
cursor_at c = record { state = c }

-- steps up to the first item; the first argument bounds their number, and `left` is enough
unfoldable pub seek : ℕ → List ℕ → State → Option (Placed × Cursor)
seek zero d c = None
seek (suc k) d c =
    elim (advance d c) [
      | Some (Advance.Item x next) ↦ Some (x, cursor_at next)
      | Some (Advance.Onward next) ↦ seek k d next
      | None ↦ None
    ]

-- the next item and the cursor behind it, or the end
unfoldable pub next_of : List ℕ → Cursor → Option (Placed × Cursor)
next_of d c = seek (suc (left d c.state)) d c.state

-- before the first item
abbrev pub start : Cursor
start = cursor_at (State.Packet 0)

-- the items that lie behind a cursor
abbrev pub remaining : List ℕ → State → List Placed
remaining d (State.Packet p) = packets_items d p
remaining d (State.Sources at stop next) = source_items d stop at ++ packets_items d next
remaining d (State.Blocks sender at stop next) = blocks_items d sender stop at ++ packets_items d next

-- what a cursor gives when it is asked again and again, at most as often as the first argument says (`cursor-in_turn`
-- speaks of it)
unfoldable pub given : ℕ → List ℕ → Cursor → List Placed
given zero d c = []
given (suc k) d c =
    elim (next_of d c) [
      | Some (x, next) ↦ x ∷ given k d next
      | None ↦ []
    ]
