-- The calls so far, at most one an item, and those of what the cursor still gives are those of all.
use Prim.Native.Nat.{◌+◌, ◌-◌}
use mathlib.Core.Path.{◌≡◌, sym, ap, ◌∙◌}
use native.Mathlib.Omega.{arith}
use Rattle.intake.specs.Steps.{call_count}
use Rattle.intake.proofs.Laws.{given-item, given_end, given-none, count_front, count_none}
use Rattle.intake.proofs.count_calls.Goals as goal

pub loop-init : goal.loop-init
loop-init c =
    let all : c.args.n - 0 ≡ c.args.n = omega arith in
    (omega arith, rw all (omega arith))

pub returns-in_default : goal.returns-in_default
returns-in_default c =
    let ended : _ = sym c.next_item.ensures ∙ c.in_default.is in
    let none : _ =
    ap call_count (given_end (c.args.n - c.loop.counter) c.args.d.now c.loop.cursor ended) ∙ count_none in
    omega (arith, c.loop.invariant.1, none)

pub overflow_add-calls : goal.overflow_add-calls
overflow_add-calls c = omega (arith, c.ranges.n.fits)

pub loop-preserved : goal.loop-preserved
loop-preserved c =
    let gave : _ = sym c.next_item.ensures ∙ c.in-Some.is in
    let n = c.args.n in
    let i = c.loop.counter in
    let front : _ =
    ap call_count (given-item (n - i) (n - (i + 1)) c.args.d.now c.loop.cursor _ _ (omega arith) gave)
    ∙ count_front _ _ in (
      omega (arith, c.loop.invariant.0, c.calls_of-calls.ensures.1),
      omega (arith, c.loop.invariant.1, c.calls_of-calls.ensures.0, front),
    )

pub returns : goal.returns
returns c =
    let none : _ =
    ap call_count (given-none (c.args.n - c.loop.counter) c.args.d.now c.loop.cursor (omega arith)) ∙ count_none in
    omega (arith, c.loop.invariant.1, none)
