-- A source gives a farewell; behind the last one comes the next packet.
use mathlib.Core.Path.{◌≡◌, sym, ◌∙◌}
use native.Mathlib.Omega.{arith}
use Rattle.std.proofs.Common.{rules}
use Rattle.std.specs.Prelude.{Some, None}
use Rattle.packet.specs.Answers.{source_is}
use Rattle.packet.proofs.Laws.Bytes.{source_read}
use Rattle.rtcp.proofs.Laws.Advance.{behind_sources, at_source}
use Rattle.rtcp.proofs.cursor.at_source.Goals as goal

pub returns-then-stop-at : goal.returns-then-stop-at
returns-then-stop-at c =
    let a = c.args in
    sym (behind_sources a.d.now a.at a.stop a.next c.if-stop-at.true)

pub returns-in_err-source_at : goal.returns-in_err-source_at
returns-in_err-source_at c =
    let a = c.args in
    let e : c.from_residual.result ≡ None = search rules in
    let f : source_is a.d.now a.stop a.at ≡ None = search rules in
    e ∙ sym (at_source a.d.now a.at a.stop a.next c.if-stop-at.false f)

pub overflow_add-result : goal.overflow_add-result
overflow_add-result c =
    let r : _ = source_read c.args.d.now c.args.stop c.args.at c.in_ok-source_at.field-0 (search rules) in
    omega (arith, r.0, r.1)

pub returns : goal.returns
returns c =
    let a = c.args in
    let f : source_is a.d.now a.stop a.at ≡ Some c.in_ok-source_at.field-0 = search rules in
    sym (at_source a.d.now a.at a.stop a.next c.if-stop-at.false f)
