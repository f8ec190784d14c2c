-- One item after the other; `CallsLeft` says which calls are left.
use Prim.Native.Nat.{◌+◌, ◌-◌}
use mathlib.Core.Path.{◌≡◌, sym, ◌∙◌}
use native.Mathlib.Omega.{arith}
use Rattle.intake.proofs.Laws.{given_end, given-none, calls_item, calls_none}
use Rattle.intake.proofs.Laws.{calls_left_start, calls_left_room, calls_left_item, calls_left_end}
use Rattle.intake.proofs.make_calls.Goals as goal

pub loop-init : goal.loop-init
loop-init c =
    let all : c.args.n - 0 ≡ c.args.n = omega arith in
    rw all (calls_left_start c.requires)

pub shape_of-answers-in_default : goal.shape_of-answers-in_default
shape_of-answers-in_default c = c.loop.invariant.long

pub returns-in_default : goal.returns-in_default
returns-in_default c =
    let args = c.args in
    let ended : _ = sym c.next_item.ensures ∙ c.in_default.is in
    let all : _ =
    calls_left_end c.loop.invariant
    (calls_none args.origin args.at (given_end _ args.d.now c.loop.cursor ended))
    c.requires in
    record { value = all.0; answers_after = all.1 }

pub put_number-place-requires : goal.put_number-place-requires
put_number-place-requires c =
    let args = c.args in
    let gave : _ = sym c.next_item.ensures ∙ c.in-Some.is in
    calls_left_room c.loop.invariant args.origin args.at _ _ _
    (calls_item args.origin args.at _ (args.n - (c.loop.counter + 1)) args.d.now c.loop.cursor _ _ (omega arith) gave)
    c.intake-taken.ensures

pub loop-preserved : goal.loop-preserved
loop-preserved c =
    let args = c.args in
    let gave : _ = sym c.next_item.ensures ∙ c.in-Some.is in
    calls_left_item c.loop.invariant args.origin args.at _ _ _ _ _
    (calls_item args.origin args.at _ _ args.d.now c.loop.cursor _ _ (omega arith) gave)
    c.intake-taken.ensures
    c.put_number-place.ensures.answers_after
    c.put_number-place.ensures.value

pub shape_of-answers : goal.shape_of-answers
shape_of-answers c = c.loop.invariant.long

pub returns : goal.returns
returns c =
    let args = c.args in
    let all : _ =
    calls_left_end c.loop.invariant
    (calls_none args.origin args.at (given-none _ args.d.now c.loop.cursor (omega arith)))
    c.requires in
    record { value = all.0; answers_after = all.1 }
