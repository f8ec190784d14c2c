-- The rows of the packets in turn, while rows are missing. The measure is what is left of the datagram.
use Prim.Native.Nat.{◌-◌}
use mathlib.Core.Path.{◌≡◌}
use mathlib.Core.Bool.{true}
use lib.ListN.{length}
use Rattle.datagram.specs.Datagram.{packets_check, packets_items, datagram_items}
use Rattle.packet.specs.Checks.{passed}
use Rattle.rtcp.proofs.Laws.Rows.{Filling}
use Rattle.rtcp.proofs.rows.fill_rows.Given as goal

abbrev pub invariant-loop-cell : goal.invariant-loop-cell
invariant-loop-cell l =
    (packets_check true l.d l.p ≡ passed) × Filling l.initial.rows 0 (datagram_items l.d) l.rows l.cell (packets_items l.d l.p)

abbrev pub decreases-loop-cell : goal.decreases-loop-cell
decreases-loop-cell l =
    length l.d - l.p
