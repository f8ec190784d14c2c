-- A refusal is handed on, too short a list gets 10, and else every call is made: one law for each.
use mathlib.Core.Path.{sym, ◌∙◌}
use native.Mathlib.Omega.{arith}
use Rattle.intake.proofs.Laws.{length_calls, answered-refused, answered-short, answered-all}
use Rattle.intake.proofs.take_datagram.Goals as goal

pub returns-then-answers-calls : goal.returns-then-answers-calls
returns-then-answers-calls c =
    let args = c.args in
    let all : _ =
    answered-short args.t args.reduced args.d.now args.origin args.at args.answers.now _ _ _
    (sym c.open_datagram.ensures ∙ c.in-Ok.is) c.count_calls-calls.ensures c.if-answers-calls.true in
    rw c.number-then-answers-calls.ensures (record { value = all.0; answers_after = all.1 })

pub make_calls-requires : goal.make_calls-requires
make_calls-requires c =
    let args = c.args in
    let many : _ = c.count_calls-calls.ensures ∙ sym (length_calls args.origin args.at _) in
    omega (arith, c.if-answers-calls.false, many)

pub returns-in-Err : goal.returns-in-Err
returns-in-Err c =
    let args = c.args in
    let all : _ =
    answered-refused args.t args.reduced args.d.now args.origin args.at args.answers.now _
    (sym c.open_datagram.ensures ∙ c.in-Err.is) in
    rw c.number.ensures (record { value = all.0; answers_after = all.1 })

pub returns-else-answers-calls : goal.returns-else-answers-calls
returns-else-answers-calls c =
    let args = c.args in
    let all : _ =
    answered-all args.t args.reduced args.d.now args.origin args.at args.answers.now _ _ _
    (sym c.open_datagram.ensures ∙ c.in-Ok.is) c.count_calls-calls.ensures _ _
    c.if-answers-calls.false c.make_calls.ensures.value c.make_calls.ensures.answers_after in
    record { value = all.0; answers_after = all.1 }
