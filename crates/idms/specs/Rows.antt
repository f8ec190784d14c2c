-- An item as a row of ten numbers, which is how it crosses to C, and one field of it.
--     column 0 kind, 1 place, 2 source, 3 group, 4 media source, 5 received, 6 RTP, 7 presented, 8 payload type, 9 P
use Rattle.std.specs.Prelude.{ℕ, List, [], ◌∷◌, Bool, true, false, cond, get_or, leb}
use Rattle.std.specs.Prelude.{Option, Some, None}
use Rattle.idms.specs.declared.Item.{Item}
use Rattle.idms.specs.declared.Placed.{Placed}

-- P as a number
abbrev pub flag : Bool → ℕ
flag true = 1
flag false = 0

-- a column that the item does not have holds 0
abbrev pub cells : ℕ → Item → List ℕ
cells place (Item.Report r) =
    1
    ∷ place
    ∷ r.sender
    ∷ r.group
    ∷ r.media
    ∷ r.received
    ∷ r.rtp
    ∷ r.presented
    ∷ r.payload_type
    ∷ flag r.p
    ∷ []
cells place (Item.Settings s) =
    2 ∷ place ∷ s.sender ∷ s.group ∷ s.media ∷ s.received ∷ s.rtp ∷ s.presented ∷ 0 ∷ 0 ∷ []
cells place (Item.Farewell source) = 3 ∷ place ∷ source ∷ 0 ∷ 0 ∷ 0 ∷ 0 ∷ 0 ∷ 0 ∷ 0 ∷ []

abbrev pub row_of : Placed → List ℕ
row_of p = cells p.place p.item

-- the columns that an item has, from the first
abbrev pub columns_of : Item → ℕ
columns_of (Item.Report r) = 10
columns_of (Item.Settings s) = 8
columns_of (Item.Farewell source) = 3

-- the field of a number, where the item has it
unfoldable pub field_of : Placed → ℕ → Option ℕ
field_of p number = cond (leb (columns_of p.item) number) None (Some (get_or (row_of p) number 0))
