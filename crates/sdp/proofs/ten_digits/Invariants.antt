-- The digits that are left to put, and behind them those that were put, make up all ten.
use mathlib.Core.List.{◌++◌}
use mathlib.Core.Path.{◌≡◌}
use lib.ListN.{length, drop}
use Rattle.sdp.specs.Digits.{digits_of}
use Rattle.sdp.proofs.ten_digits.Given as goal

abbrev pub invariant-loop-i : goal.invariant-loop-i
invariant-loop-i l =
    (length l.digits ≡ 10) × (digits_of l.i l.rest ++ drop l.i l.digits ≡ digits_of 10 l.n)
