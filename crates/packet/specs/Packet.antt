-- One packet of a datagram d, which starts at the byte p: its header, its padding, its content and its own checks.
--
--      0                   1                   2                   3
--      0 1 2 3 4 5 6 7 8 9 0 1 2 3 4 5 6 7 8 9 0 1 2 3 4 5 6 7 8 9 0 1
--     +-+-+-+-+-+-+-+-+-+-+-+-+-+-+-+-+-+-+-+-+-+-+-+-+-+-+-+-+-+-+-+-+
--     |V=2|P|  count  |     type      |   length in words less one    |
--     +-+-+-+-+-+-+-+-+-+-+-+-+-+-+-+-+-+-+-+-+-+-+-+-+-+-+-+-+-+-+-+-+
use Rattle.std.specs.Prelude.{ℕ, ◌+◌, ◌-◌, ◌*◌, ◌/◌, ◌%◌, ◌^◌, List, Bool, not, cond, ◌&&◌, ◌||◌, length, ltb, eqb}
use Rattle.refusals.specs.declared.RefusalNumber.{RefusalNumber}
use Rattle.packet_checks.specs.declared.kind.PacketType.{PacketType}
use Rattle.packet_checks.specs.Header.{padding_is_misplaced, padding_count_is_bad, kind_of, first_is_bad, content_is_short}
use Rattle.packet.specs.Checks.{Check, passed, refuse_if}
use Rattle.packet.specs.Bytes.{byte, be16}

abbrev pub version : List ℕ → ℕ → ℕ
version d p = byte d p / 2 ^ 6

abbrev pub padded : List ℕ → ℕ → Bool
padded d p = eqb ((byte d p / 2 ^ 5) % 2) 1

abbrev pub count : List ℕ → ℕ → ℕ
count d p = byte d p % 2 ^ 5

abbrev pub packet_type : List ℕ → ℕ → ℕ
packet_type d p = byte d (p + 1)

-- the packet's bytes
abbrev pub size : List ℕ → ℕ → ℕ
size d p = 4 * (be16 d (p + 2) + 1)

-- the packet's final byte, which counts the bytes of padding where P is set
abbrev pub padding : List ℕ → ℕ → ℕ
padding d p = byte d (p + size d p - 1)

-- check 3, of any packet
unfoldable pub padding_is_bad : List ℕ → ℕ → Bool
padding_is_bad d p =
    padded d p
    && (padding_is_misplaced p (p + size d p) (length d) || padding_count_is_bad (padding d p) (size d p))

-- the packet's bytes, its header among them, without the padding
unfoldable pub content : List ℕ → ℕ → ℕ
content d p = cond (padded d p) (size d p - padding d p) (size d p)

abbrev pub kind : List ℕ → ℕ → PacketType
kind d p = kind_of (packet_type d p) (count d p)

-- checks 2, 3, 4 and 5 of one packet, in that order
unfoldable pub head_check : Bool → List ℕ → ℕ → Check
head_check reduced d p =
    refuse_if (not (eqb (version d p) 2)) RefusalNumber.BadPacket p
    (refuse_if (ltb (length d) (p + size d p)) RefusalNumber.BadPacket p
    (refuse_if (padding_is_bad d p) RefusalNumber.BadPadding p
    (refuse_if (first_is_bad reduced p (kind d p)) RefusalNumber.BadFirst p
    (refuse_if (content_is_short (kind d p) (content d p)) RefusalNumber.ShortContent p
    passed))))
