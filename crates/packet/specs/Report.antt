-- The blocks of an XR packet (RFC 3611 section 3), and the IDMS report block (RFC 7272 section 6) among them.
--
--      0                   1                   2                   3
--      0 1 2 3 4 5 6 7 8 9 0 1 2 3 4 5 6 7 8 9 0 1 2 3 4 5 6 7 8 9 0 1
--     +-+-+-+-+-+-+-+-+-+-+-+-+-+-+-+-+-+-+-+-+-+-+-+-+-+-+-+-+-+-+-+-+
--     |     BT=12     | role  | rsv |P|         block length=7        |
--     +-+-+-+-+-+-+-+-+-+-+-+-+-+-+-+-+-+-+-+-+-+-+-+-+-+-+-+-+-+-+-+-+
--     | payload type|                    reserved                     |
--     +-+-+-+-+-+-+-+-+-+-+-+-+-+-+-+-+-+-+-+-+-+-+-+-+-+-+-+-+-+-+-+-+
--     |             media stream correlation identifier               |
--     +-+-+-+-+-+-+-+-+-+-+-+-+-+-+-+-+-+-+-+-+-+-+-+-+-+-+-+-+-+-+-+-+
--     |                     SSRC of media source                      |
--     +-+-+-+-+-+-+-+-+-+-+-+-+-+-+-+-+-+-+-+-+-+-+-+-+-+-+-+-+-+-+-+-+
--     |                   packet received NTP timestamp               |
--     |                            (64 bits)                          |
--     +-+-+-+-+-+-+-+-+-+-+-+-+-+-+-+-+-+-+-+-+-+-+-+-+-+-+-+-+-+-+-+-+
--     |                   packet received RTP timestamp               |
--     +-+-+-+-+-+-+-+-+-+-+-+-+-+-+-+-+-+-+-+-+-+-+-+-+-+-+-+-+-+-+-+-+
--     |                  packet presented NTP timestamp               |
--     +-+-+-+-+-+-+-+-+-+-+-+-+-+-+-+-+-+-+-+-+-+-+-+-+-+-+-+-+-+-+-+-+
use Rattle.std.specs.Prelude.{ℕ, ◌+◌, ◌*◌, ◌/◌, ◌%◌, ◌^◌, List, [], ◌∷◌, Bool, cond, ◌&&◌, ◌||◌, length, ltb, eqb}
use Rattle.refusals.specs.declared.RefusalNumber.{RefusalNumber}
use Rattle.idms.specs.declared.Report.{Report}
use Rattle.idms.specs.declared.Item.{Item}
use Rattle.idms.specs.declared.Placed.{Placed}
use Rattle.packet_checks.specs.IdmsBlock.{idms_length_is_bad, role_reports, presented_if}
use Rattle.packet.specs.Checks.{Check, passed, refuse_if}
use Rattle.packet.specs.Bytes.{byte, be16, be32, be64}

abbrev pub block_type : List ℕ → ℕ → ℕ
block_type d at = byte d at

-- in words, after the block's first
abbrev pub block_length : List ℕ → ℕ → ℕ
block_length d at = be16 d (at + 2)

-- the block's bytes
abbrev pub block_size : List ℕ → ℕ → ℕ
block_size d at = 4 * (block_length d at + 1)

-- Check 6 precedes 7. The content that ends at `stop` lies in the datagram once check 2 has passed; no block is read of
-- one that does not. A block of type 12 is checked whatever its role.
unfoldable pub block_check : List ℕ → ℕ → ℕ → Check
block_check d stop at =
    refuse_if (ltb (length d) stop || ltb stop (at + block_size d at)) RefusalNumber.BlockPastEnd at
    (refuse_if (eqb (block_type d at) 12 && idms_length_is_bad (block_length d at)) RefusalNumber.BadBlockLength at
    passed)

abbrev pub role : List ℕ → ℕ → ℕ
role d at = byte d (at + 1) / 2 ^ 4

abbrev pub block_p : List ℕ → ℕ → Bool
block_p d at = eqb (byte d (at + 1) % 2) 1

-- The fields of a report, with the SSRC of the XR packet's sender. Reserved bits are ignored. Where P is 0, presented
-- is not looked at and reads as 0.
unfoldable pub report_at : List ℕ → ℕ → ℕ → Report
report_at d sender at =
    record {
      sender = sender;
      payload_type = byte d (at + 4) / 2;
      p = block_p d at;
      group = be32 d (at + 8);
      media = be32 d (at + 12);
      received = be64 d (at + 16);
      rtp = be32 d (at + 24);
      presented = presented_if (block_p d at) (be32 d (at + 28));
    }

-- an IDMS report: block type 12 with role 1
abbrev pub reports : List ℕ → ℕ → Bool
reports d at = eqb (block_type d at) 12 && role_reports (role d at)

-- A report for each type-12 block with role 1. Other block types are skipped, and blocks with role 0 or 2 to 15 give
-- no item.
unfoldable pub block_items : List ℕ → ℕ → ℕ → List Placed
block_items d sender at =
    cond (reports d at)
    (record { place = at; item = Item.Report (report_at d sender at) } ∷ [])
    []
