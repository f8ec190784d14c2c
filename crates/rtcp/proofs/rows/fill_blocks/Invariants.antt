-- A row for each report in turn; `Filling` says what is left to put. The measure is what is left of the blocks.
use Prim.Native.Nat.{◌-◌}
use mathlib.Core.Path.{◌≡◌}
use Rattle.datagram.specs.Datagram.{blocks_check, blocks_items}
use Rattle.packet.specs.Checks.{passed}
use Rattle.rtcp.proofs.Laws.Rows.{Filling}
use Rattle.rtcp.proofs.rows.fill_blocks.Given as goal

abbrev pub invariant-loop-place : goal.invariant-loop-place
invariant-loop-place l =
    (blocks_check l.d l.stop l.place ≡ passed)
    × Filling l.initial.rows l.at (blocks_items l.d l.sender l.stop l.from) l.rows l.cell (blocks_items l.d l.sender l.stop l.place)

abbrev pub decreases-loop-place : goal.decreases-loop-place
decreases-loop-place l =
    l.stop - l.place
