-- One item after the other, and one entry after the other: `Running` says what is left. The measure counts the entries
-- left, each as more than a datagram has items, and the items left.
use Prim.Native.Nat.{◌+◌, ◌-◌, ◌*◌}
use Rattle.replay.specs.Steps.{cursor_behind}
use Rattle.replay.proofs.Laws.Running.{Running}
use Rattle.replay.proofs.run_entries.Given as goal

abbrev pub invariant-loop-step : goal.invariant-loop-step
invariant-loop-step l =
    Running l.f l.n l.initial.table l.initial.rows l.table l.sources l.rows l.i l.entry l.left (cursor_behind l.step)
    l.row

abbrev pub decreases-loop-step : goal.decreases-loop-step
decreases-loop-step l =
    (l.n - l.i) * 1024 + l.left
