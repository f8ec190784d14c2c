-- What the calls answer: a packet's header, what it holds, its settings, a block and a source, or the number of a
-- refusal, whose place is the packet's or the block's.
use Rattle.std.specs.Prelude.{ℕ, ◌-◌, List, Bool, cond, ◌||◌, length, ltb}
use Rattle.std.specs.Prelude.{Option, Some, None, Result, Ok, Err}
use Rattle.idms.specs.declared.Settings.{Settings}
use Rattle.refusals.specs.declared.RefusalNumber.{RefusalNumber}
use Rattle.idms.specs.declared.Report.{Report}
use Rattle.packet_checks.specs.declared.block.Block.{Block}
use Rattle.packet.specs.declared.header.Head.{Head}
use Rattle.packet.specs.declared.contents.Packet.{Packet}
use Rattle.packet.specs.declared.block.BlockItem.{BlockItem}
use Rattle.packet.specs.Checks.{Check, passed, refused}
use Rattle.packet.specs.Bytes.{be32}
use Rattle.packet.specs.Packet.{kind, count, size, content, head_check}
use Rattle.packet.specs.Report.{block_size, block_check, reports, report_at}
use Rattle.packet.specs.Settings.{settings_at}
use Rattle.packet.specs.Contents.{contents, readable}

-- what the code keeps of a header
abbrev pub head_of : List ℕ → ℕ → Head
head_of d p = record { kind = kind d p; count = count d p; bytes = size d p; content = content d p }

abbrev pub head_unless : Check → Head → Result Head RefusalNumber
head_unless passed h = Ok h
head_unless (refused number place) h = Err number

-- the header of the packet at p
unfoldable pub head_is : Bool → List ℕ → ℕ → Result Head RefusalNumber
head_is reduced d p = head_unless (head_check reduced d p) (head_of d p)

-- what the packet at p holds
unfoldable pub packet_is : List ℕ → ℕ → Option Packet
packet_is d p = cond (readable d p) (Some (contents d p)) None

abbrev pub block_unless : Check → Result Block RefusalNumber → Result Block RefusalNumber
block_unless passed b = b
block_unless (refused number place) b = Err number

-- whether the block at a place is a report, or how many bytes it takes where it gives no item
unfoldable pub block_is : List ℕ → ℕ → ℕ → Result Block RefusalNumber
block_is d stop at =
    block_unless (block_check d stop at) (cond (reports d at) (Ok Block.Report) (Ok (Block.Skipped (block_size d at))))

-- the same with the report's fields
abbrev pub block_item_of : Result Block RefusalNumber → Report → Result BlockItem RefusalNumber
block_item_of (Ok Block.Report) r = Ok (BlockItem.Report r)
block_item_of (Ok (Block.Skipped bytes)) r = Ok (BlockItem.Skipped bytes)
block_item_of (Err number) r = Err number

unfoldable pub block_item : List ℕ → ℕ → ℕ → ℕ → Result BlockItem RefusalNumber
block_item d sender stop at = block_item_of (block_is d stop at) (report_at d sender at)

-- the report at a place, or that the datagram does not have its 32 bytes
unfoldable pub report_is : List ℕ → ℕ → ℕ → Option Report
report_is d sender at = cond (ltb (length d - at) 32) None (Some (report_at d sender at))

-- the settings in the packet at p, or that the datagram does not have its 36 bytes
unfoldable pub settings_is : List ℕ → ℕ → Option Settings
settings_is d p = cond (ltb (length d - p) 36) None (Some (settings_at d p))

-- the source at a place, of those that end at `stop`, or that these run past the datagram, or no whole word is left
unfoldable pub source_is : List ℕ → ℕ → ℕ → Option ℕ
source_is d stop at = cond (ltb (length d) stop || ltb (stop - at) 4) None (Some (be32 d at))
