-- What the public calls answer; `reduced` says whether reduced size was agreed.
use Rattle.std.specs.Prelude.{ℕ, List, Bool, cond, length, get_or, ltb}
use Rattle.std.specs.Prelude.{Result, Ok, Err}
use Rattle.idms.specs.declared.Refusal.{Refusal}
use Rattle.refusals.specs.declared.RefusalNumber.{RefusalNumber}
use Rattle.rtcp.specs.declared.cursor.Cursor.{Cursor}
use Rattle.idms.specs.declared.Item.{Item}
use Rattle.idms.specs.declared.Placed.{Placed}
use Rattle.packet.specs.Checks.{Check, passed, refused}
use Rattle.datagram.specs.Datagram.{datagram_check, datagram_items}
use Rattle.datagram.specs.Answers.{refusal}
use Rattle.rtcp.specs.Cursor.{start}

-- what `get_or` answers past the end of a list of items; no index below a count reaches it
abbrev pub nothing : Placed
nothing = record { place = 0; item = Item.Farewell 0 }

-- the item at an index of a list: 9 at place 0 where the index is not below the count
unfoldable pub pick : List Placed → ℕ → Result Placed Refusal
pick items index =
    cond (ltb index (length items)) (Ok (get_or items index nothing)) (Err (refusal RefusalNumber.NoSuchItem 0))

abbrev pub item_unless : Check → List Placed → ℕ → Result Placed Refusal
item_unless passed items index = pick items index
item_unless (refused number place) items index = Err (refusal number place)

-- the item at an index, or the datagram's refusal, which answers at any index, or 9
unfoldable pub item_of : Bool → List ℕ → ℕ → Result Placed Refusal
item_of reduced d index = item_unless (datagram_check reduced d) (datagram_items d) index

-- a cursor before the first item, and how many items there are, or the datagram's refusal
abbrev pub cursor_unless : Check → ℕ → Result (ℕ × Cursor) Refusal
cursor_unless passed items = Ok (items, start)
cursor_unless (refused number place) items = Err (refusal number place)

unfoldable pub cursor_on : Bool → List ℕ → Result (ℕ × Cursor) Refusal
cursor_on reduced d = cursor_unless (datagram_check reduced d) (length (datagram_items d))
