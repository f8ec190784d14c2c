-- Steps up to an item: each step that gives none keeps what comes next. The measure is what is left to step over.
use mathlib.Core.Path.{◌≡◌}
use Rattle.rtcp.specs.Cursor.{left, cursor_at, next_of}
use Rattle.rtcp.proofs.cursor.next_item.Given as goal

abbrev pub invariant-loop-x : goal.invariant-loop-x
invariant-loop-x l =
    next_of l.d (cursor_at l.initial.c) ≡ next_of l.d (cursor_at l.c)

abbrev pub decreases-loop-x : goal.decreases-loop-x
decreases-loop-x l =
    left l.d l.c
