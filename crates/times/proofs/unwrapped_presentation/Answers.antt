-- The presentation before wrapping: `step-zero` where presented is M, `step_other` elsewhere.
use mathlib.Core.Path.{sym, ◌∙◌}
use native.Mathlib.Omega.{arith}
use Rattle.times.specs.Times.{step}
use Rattle.times.proofs.Steps.{step-zero, step_other}
use Rattle.times.proofs.unwrapped_presentation.Goals as goal

pub returns-then-step-eq0 : goal.returns-then-step-eq0
unfolding step
returns-then-step-eq0 c = step-zero c.args.received c.args.presented (sym c.rtp_age-step.ensures ∙ c.if-step-eq0.true)

pub returns-else-step-eq0 : goal.returns-else-step-eq0
unfolding step
returns-else-step-eq0 c =
    let same : _ = c.rtp_age-step.ensures in
    let sum : _ = step_other c.args.received c.args.presented (λ z. c.if-step-eq0.false (same ∙ z)) in
    omega (arith, sum, same)
