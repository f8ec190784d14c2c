-- A sample is presented after it was received, and at most 2^48 units later.
use native.Mathlib.Omega.{arith}
use Rattle.times.specs.Times.{delay}
use Rattle.times.proofs.Laws.{unwrapped_bounds}
use Rattle.times.proofs.presentation_delay.Goals as goal

pub overflow_sub-result : goal.overflow_sub-result
overflow_sub-result c =
    let args = c.args in
    omega (arith, c.unwrapped_presentation.ensures, unwrapped_bounds args.received args.presented)

pub overflow_cast-result-2 : goal.overflow_cast-result-2
overflow_cast-result-2 c =
    let args = c.args in
    omega (arith, c.unwrapped_presentation.ensures, unwrapped_bounds args.received args.presented)

pub returns : goal.returns
unfolding delay
returns c = omega (arith, c.unwrapped_presentation.ensures)
