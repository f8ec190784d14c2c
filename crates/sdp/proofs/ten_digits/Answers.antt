-- Each turn puts the last of the digits that are left; in the end none is.
use Prim.Native.Nat.{ℕ}
use mathlib.Core.List.{◌++◌}
use mathlib.Core.Path.{◌≡◌, sym, ap, ◌∙◌}
use lib.ListN.{drop, length-set}
use native.Mathlib.Omega.{arith}
use Rattle.sdp.specs.Digits.{digits_of}
use Rattle.sdp.proofs.Laws.Digits.{digit_put}
use Rattle.sdp.proofs.ten_digits.Goals as goal

pub loop-i-preserved : goal.loop-i-preserved
loop-i-preserved c = (
  length-set c.loop-i.digits _ _ ∙ c.loop-i.invariant.0,
  digit_put c.loop-i.i c.loop-i.rest c.loop-i.digits c.loop-i-test.true
      (omega (arith, c.loop-i.invariant.0, c.loop-i.auto.i))
      ∙ c.loop-i.invariant.1,
)

pub returns : goal.returns
unfolding digits_of
returns c =
    let none : c.loop-i.i ≡ 0 = omega (arith, c.loop-i-test.false) in
    sym (ap (λ (k : ℕ). digits_of k c.loop-i.rest ++ drop k c.loop-i.digits) none) ∙ c.loop-i.invariant.1
