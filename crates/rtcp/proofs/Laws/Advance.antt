-- Laws of one step of a cursor, by what stands there.
use Prim.Native.Nat.{ℕ, ◌≤◌, ◌<◌}
use Rattle.std.specs.Prelude.{Option, Some, Result}
use Rattle.refusals.specs.declared.RefusalNumber.{RefusalNumber}
use mathlib.Core.Path.{◌≡◌, ap}
use mathlib.Core.List.{List}
use borrow.Author.Tests.{le-leb, lt-leb}
use Rattle.packet.specs.declared.contents.Packet.{Packet}
use Rattle.packet_checks.specs.declared.block.Block.{Block}
use Rattle.packet.specs.Report.{report_at}
use Rattle.packet.specs.Answers.{packet_is, block_is, source_is}
use Rattle.rtcp.specs.declared.cursor.State.{State}
use Rattle.rtcp.specs.declared.cursor.Advance.{Advance}
use Rattle.rtcp.specs.Cursor.{packet_step, source_step, block_step, advance}

pub at_packet_lem : (d : List ℕ) (p : ℕ) {x : Option Packet} → packet_is d p ≡ x → advance d (State.Packet p) ≡ packet_step d p x
unfolding advance
at_packet_lem d p e = ap (packet_step d p) e

module _ (d : List ℕ) (at stop next : ℕ) where
  pub behind_sources : stop ≤ at → advance d (State.Sources at stop next) ≡ Some (Advance.Onward (State.Packet next))
  unfolding advance
  behind_sources h = rw (le-leb stop at h)

  pub at_source :
      {x : Option ℕ} → at < stop → source_is d stop at ≡ x → advance d (State.Sources at stop next) ≡ source_step at stop next x
  unfolding advance
  at_source h e = rw (lt-leb stop at h) (ap (source_step at stop next) e)

module _ (d : List ℕ) (sender at stop next : ℕ) where
  pub behind_blocks : stop ≤ at → advance d (State.Blocks sender at stop next) ≡ Some (Advance.Onward (State.Packet next))
  unfolding advance
  behind_blocks h = rw (le-leb stop at h)

  pub at_block :
      {x : Result Block RefusalNumber} → at < stop → block_is d stop at ≡ x
      → advance d (State.Blocks sender at stop next) ≡ block_step sender at stop next x (report_at d sender at)
  unfolding advance
  at_block h e = rw (lt-leb stop at h, e)
