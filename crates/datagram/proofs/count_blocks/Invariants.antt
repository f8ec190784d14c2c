-- The blocks checked and counted: what is left to answer never changes. The measure is what is left of the content.
use Prim.Native.Nat.{◌+◌, ◌-◌, ◌≤◌}
use mathlib.Core.Path.{◌≡◌}
use Rattle.datagram.specs.Answers.{blocks_count}
use Rattle.packet.specs.Bytes.{be32}
use Rattle.datagram.proofs.Laws.Counting.{blocks_left}
use Rattle.datagram.proofs.count_blocks.Given as goal

abbrev pub invariant-loop-at : goal.invariant-loop-at
invariant-loop-at l =
    (l.at ≤ l.p + l.content)
    × (l.n ≤ l.at)
    × (blocks_count l.d l.p l.content ≡ blocks_left l.d (be32 l.d (l.p + 4)) (l.p + l.content) l.n l.at)

abbrev pub decreases-loop-at : goal.decreases-loop-at
decreases-loop-at l =
    l.p + l.content - l.at
