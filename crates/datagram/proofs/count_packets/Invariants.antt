-- The packets checked and counted: what is left to answer never changes. The measure is what is left of the datagram.
use Prim.Native.Nat.{◌-◌, ◌*◌, ◌≤◌}
use mathlib.Core.Path.{◌≡◌}
use lib.ListN.{length}
use Rattle.datagram.specs.Answers.{packets_count}
use Rattle.datagram.proofs.Laws.Counting.{packets_left}
use Rattle.datagram.proofs.count_packets.Given as goal

abbrev pub invariant-loop-p : goal.invariant-loop-p
invariant-loop-p l =
    (l.p ≤ length l.d) × (4 * l.n ≤ l.p) × (packets_count l.reduced l.d 0 ≡ packets_left l.reduced l.d l.n l.p)

abbrev pub decreases-loop-p : goal.decreases-loop-p
decreases-loop-p l =
    length l.d - l.p
