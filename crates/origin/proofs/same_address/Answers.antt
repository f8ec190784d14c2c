-- The bytes before i are alike, so the rest decides.
use mathlib.Core.Path.{sym, ◌∙◌}
use native.Mathlib.Omega.{arith}
use Rattle.origin.proofs.Laws.{same_unlike, same_alike, same_end}
use Rattle.origin.proofs.same_address.Goals as goal

pub returns-then-a-i : goal.returns-then-a-i
returns-then-a-i c =
    let args = c.args in
    let within = c.loop-i-test.true in
    sym
    (same_unlike args.a.now args.b.now c.loop-i.i (omega (arith, within)) (omega (arith, within))
    c.if-a-i.true)
    ∙ c.loop-i.invariant.1

pub loop-i-preserved : goal.loop-i-preserved
loop-i-preserved c =
    let args = c.args in
    let within = c.loop-i-test.true in
    let next : _ =
    same_alike args.a.now args.b.now c.loop-i.i (omega (arith, within)) (omega (arith, within))
    c.if-a-i.false in
    (omega (arith, within), sym next ∙ c.loop-i.invariant.1)

pub returns : goal.returns
returns c =
    let args = c.args in
    let past = c.loop-i-test.false in
    sym (same_end args.a.now args.b.now c.loop-i.i (omega (arith, past)) (omega (arith, past)))
    ∙ c.loop-i.invariant.1
