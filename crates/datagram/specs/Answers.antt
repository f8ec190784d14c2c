-- How many items there are, or the refusal.
use Rattle.std.specs.Prelude.{ℕ, ◌+◌, List, Bool, length}
use Rattle.std.specs.Prelude.{Result, Ok, Err}
use Rattle.refusals.specs.declared.RefusalNumber.{RefusalNumber}
use Rattle.idms.specs.declared.Refusal.{Refusal}
use Rattle.packet.specs.Checks.{Check, passed, refused}
use Rattle.packet.specs.Bytes.{be32}
use Rattle.packet.specs.Contents.{contents}
use Rattle.datagram.specs.Datagram.{blocks_check, blocks_items, parts_check, packet_items}
use Rattle.datagram.specs.Datagram.{packets_check, packets_items, datagram_check, datagram_items}

abbrev pub refusal : RefusalNumber → ℕ → Refusal
refusal number place = record { number = number; place = place }

-- how many items, where no check refused
abbrev pub count_unless : Check → ℕ → Result ℕ Refusal
count_unless passed items = Ok items
count_unless (refused number place) items = Err (refusal number place)

-- of the blocks of the XR packet at p, whose content has a length
abbrev pub blocks_count : List ℕ → ℕ → ℕ → Result ℕ Refusal
blocks_count d p content =
    count_unless (blocks_check d (p + content) (p + 8)) (length (blocks_items d (be32 d (p + 4)) (p + content) (p + 8)))

-- of the packet at p, which is readable
abbrev pub parts_count : List ℕ → ℕ → Result ℕ Refusal
parts_count d p = count_unless (parts_check d (contents d p)) (length (packet_items d p))

-- of the packets from p on
abbrev pub packets_count : Bool → List ℕ → ℕ → Result ℕ Refusal
packets_count reduced d p = count_unless (packets_check reduced d p) (length (packets_items d p))

-- how many items a datagram has, or its refusal
unfoldable pub item_count : Bool → List ℕ → Result ℕ Refusal
item_count reduced d = count_unless (datagram_check reduced d) (length (datagram_items d))
