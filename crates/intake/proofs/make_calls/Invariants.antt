-- One item after the other; `CallsLeft` says which calls are left.
use Prim.Native.Nat.{◌-◌}
use Rattle.rtcp.specs.Cursor.{given}
use Rattle.intake.specs.Datagrams.{calls_in}
use Rattle.intake.proofs.Laws.{CallsLeft}
use Rattle.intake.proofs.make_calls.Given as goal

abbrev pub invariant-loop : goal.invariant-loop
invariant-loop l =
    CallsLeft l.initial.table l.initial.answers (calls_in l.origin l.at (given l.n l.d l.initial.cursor))
    l.table l.answers l.place
    (calls_in l.origin l.at (given (l.n - l.counter) l.d l.cursor))
