-- A digit more is a place more, and the ten digits' number fits: before each there are nine at most.
use mathlib.Core.Path.{refl}
use native.Mathlib.Omega.{arith}
use Rattle.sdp.specs.Digits.{value_of}
use Rattle.sdp.proofs.Laws.Digits.{digit_at, value_more, nine_digits}
use Rattle.sdp.proofs.value_of.Goals as goal

pub loop-digit-init : goal.loop-digit-init
unfolding value_of
loop-digit-init c = refl

pub overflow_mul-n : goal.overflow_mul-n
overflow_mul-n c =
    let digits = c.args.digits.now in
    omega (
      arith,
      c.loop-digit.invariant,
      nine_digits digits c.loop-digit.digit-index c.loop-digit-test.true c.requires.1 c.requires.0,
    )

pub overflow_sub-digit : goal.overflow_sub-digit
overflow_sub-digit c =
    (digit_at c.args.digits.now c.loop-digit.digit-index c.requires.1 c.loop-digit-test.true).0

pub overflow_add-n : goal.overflow_add-n
overflow_add-n c =
    let digits = c.args.digits.now in
    omega (
      arith,
      c.loop-digit.invariant,
      c.from.ensures,
      digit_at digits c.loop-digit.digit-index c.requires.1 c.loop-digit-test.true,
      nine_digits digits c.loop-digit.digit-index c.loop-digit-test.true c.requires.1 c.requires.0,
    )

pub loop-digit-preserved : goal.loop-digit-preserved
loop-digit-preserved c =
    omega (
      arith,
      c.loop-digit.invariant,
      c.from.ensures,
      value_more c.args.digits.now c.loop-digit.digit-index c.loop-digit-test.true,
    )
