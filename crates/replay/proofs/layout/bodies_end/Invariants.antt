-- The end after i bodies, with what is left to add.
use Prim.Native.Nat.{◌+◌, ◌-◌, ◌*◌, ◌≤◌}
use mathlib.Core.Path.{◌≡◌}
use Rattle.replay.specs.Recording.{entry_place, bodies_end}
use Rattle.replay.proofs.layout.bodies_end.Given as goal

abbrev pub invariant-loop-i : goal.invariant-loop-i
invariant-loop-i l =
    (l.end ≤ entry_place l.n + 65535 * l.i)
    × (bodies_end l.f (l.n - l.i) (entry_place l.i) l.end ≡ bodies_end l.f l.n (entry_place 0) (entry_place l.n))
