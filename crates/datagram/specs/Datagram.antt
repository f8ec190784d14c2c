-- A whole datagram: what is checked, packet by packet from the front, and the items in datagram order (document 01,
-- "Walking a datagram", and E2: check 4 of the first packet is not made where reduced size was agreed).
use Rattle.std.specs.Prelude.{ℕ, ◌%◌, ◌≤◌, List, [], ◌∷◌, Bool, not, ◌||◌, length, ltb, eqb}
use Rattle.refusals.specs.declared.RefusalNumber.{RefusalNumber}
use Rattle.refusals.specs.Refusals.{refusal_number}
use Rattle.idms.specs.declared.Placed.{Placed}
use Rattle.packet.specs.declared.contents.Packet.{Packet}
use Rattle.packet.specs.Checks.{Check, passed, refuse_if, and_then}
use Rattle.packet.specs.Packet.{size, head_check}
use Rattle.packet.specs.Report.{block_size, block_check, block_items}
use Rattle.packet.specs.Settings.{settings_item}
use Rattle.packet.specs.Farewell.{farewell_item}
use Rattle.packet.specs.Contents.{contents}
use Rattle.datagram.specs.Walk.{check_each, gives}

-- the sources of a BYE packet, one behind the other from `at` up to `stop`
abbrev pub source_items : List ℕ → ℕ → ℕ → List Placed
source_items d stop at = gives (λ (k : ℕ). farewell_item d k ∷ []) (λ (k : ℕ). 4) stop at

-- the blocks of an XR packet from `at` up to `stop`
abbrev pub blocks_check : List ℕ → ℕ → ℕ → Check
blocks_check d stop at = check_each (block_check d stop) (block_size d) stop at

abbrev pub blocks_items : List ℕ → ℕ → ℕ → ℕ → List Placed
blocks_items d sender stop at = gives (block_items d sender) (block_size d) stop at

-- checks 6 and 7, at each block of an XR packet; no other packet has parts to check
abbrev pub parts_check : List ℕ → Packet → Check
parts_check d (Packet.Unread next) = passed
parts_check d (Packet.Sources first stop next) = passed
parts_check d (Packet.Blocks sender first stop next) = blocks_check d stop first
parts_check d (Packet.Settings next) = passed

-- one packet's checks: 2, 3, 4, 5, then those of its parts
unfoldable pub packet_check : Bool → List ℕ → ℕ → Check
packet_check reduced d p = and_then (head_check reduced d p) (parts_check d (contents d p))

-- the items of the packet at p, by what it holds
abbrev pub parts_items : List ℕ → ℕ → Packet → List Placed
parts_items d p (Packet.Unread next) = []
parts_items d p (Packet.Sources first stop next) = source_items d stop first
parts_items d p (Packet.Blocks sender first stop next) = blocks_items d sender stop first
parts_items d p (Packet.Settings next) = settings_item d p ∷ []

unfoldable pub packet_items : List ℕ → ℕ → List Placed
packet_items d p = parts_items d p (contents d p)

-- the packets from p on
abbrev pub packets_check : Bool → List ℕ → ℕ → Check
packets_check reduced d p = check_each (packet_check reduced d) (size d) (length d) p

abbrev pub packets_items : List ℕ → ℕ → List Placed
packets_items d p = gives (packet_items d) (size d) (length d) p

-- check 1
abbrev pub length_is_bad : ℕ → Bool
length_is_bad n = eqb n 0 || not (eqb (n % 4) 0) || ltb 2048 n

-- The first check that applies answers for the whole datagram.
unfoldable pub datagram_check : Bool → List ℕ → Check
datagram_check reduced d = refuse_if (length_is_bad (length d)) RefusalNumber.BadLength 0 (packets_check reduced d 0)

-- the placed items of a datagram that is not refused
unfoldable pub datagram_items : List ℕ → List Placed
datagram_items d = packets_items d 0

-- the numbers that a datagram is refused with; 0 is none of them, and neither are 9 and 10
abbrev pub DatagramNumber : RefusalNumber → Type 0
DatagramNumber refused = (1 ≤ refusal_number refused) × (refusal_number refused ≤ 7)
