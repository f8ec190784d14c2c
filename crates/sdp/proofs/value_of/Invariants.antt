-- The digits so far spell the number so far.
use mathlib.Core.Path.{◌≡◌}
use lib.ListN.{take}
use Rattle.sdp.specs.Digits.{value_of}
use Rattle.sdp.proofs.value_of.Given as goal

abbrev pub invariant-loop-digit : goal.invariant-loop-digit
invariant-loop-digit l = l.n ≡ value_of (take l.digit-index l.digits)
