-- The calls so far, at most one an item, and those of what the cursor still gives are those of all.
use Prim.Native.Nat.{◌+◌, ◌-◌, ◌≤◌}
use mathlib.Core.Path.{◌≡◌}
use Rattle.rtcp.specs.Cursor.{given}
use Rattle.intake.specs.Steps.{call_count}
use Rattle.intake.proofs.count_calls.Given as goal

abbrev pub invariant-loop : goal.invariant-loop
invariant-loop l =
    (l.calls ≤ l.counter)
    × (l.calls + call_count (given (l.n - l.counter) l.d l.cursor) ≡ call_count (given l.n l.d l.initial.cursor))
