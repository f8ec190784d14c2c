-- After i places each word has the bits of those that pass its test.
use mathlib.Core.Bool.{◌&&◌}
use Rattle.register.specs.Register.{presents, fresh_at}
use Rattle.register.specs.Tallies.{records_of}
use Rattle.choosing.specs.Choose.{at_rate}
use Rattle.choosing.proofs.Laws.Marked.{KeptSoFar}
use Rattle.choosing.proofs.marks_at.Given as goal

abbrev pub invariant-loop-i : goal.invariant-loop-i
invariant-loop-i l =
    KeptSoFar (fresh_at (at_rate l.rate) l.at) l.held (records_of l.fn.members) l.fresh l.word l.i
    × KeptSoFar (λ m. fresh_at (at_rate l.rate) l.at m && presents m) l.held (records_of l.fn.members) l.presenting
    l.word
    l.i
