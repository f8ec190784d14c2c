-- The datagram's refusal first, then 10, then the rows.
use mathlib.Core.Path.{◌≡◌, ◌∙◌}
use native.Mathlib.Omega.{arith}
use Rattle.std.proofs.Common.{rules}
use Rattle.std.specs.Prelude.{Err}
use Rattle.datagram.proofs.Laws.Answers.{datagram-passed}
use Rattle.datagram.proofs.Theorems.{passes_agreed}
use Rattle.rtcp.proofs.Laws.Rows.{rows-refused, rows_short, rows-filled}
use Rattle.rtcp.proofs.Theorems.{count_bound}
use Rattle.rtcp.proofs.rows.read_items.Goals as goal

pub returns-in_err-n : goal.returns-in_err-n
returns-in_err-n c =
    let r = c.in_err-n.field-0.0 in
    let e : c.from_residual.result ≡ Err r = search rules in
    let m : _ = rows-refused c.args.reduced c.args.d.now c.args.rows.now r (search rules) in
    (e ∙ m.0, m.1)

pub overflow_mul-n : goal.overflow_mul-n
overflow_mul-n c =
    let b : _ = count_bound c.args.reduced c.args.d.now c.in_ok-n.n (search rules) in
    omega (arith, b.0, b.1)

pub returns-then-rows-n : goal.returns-then-rows-n
returns-then-rows-n c = rows_short c.args.reduced c.args.d.now c.args.rows.now c.in_ok-n.n (search rules) c.if-rows-n.true

pub fill_rows-requires : goal.fill_rows-requires
fill_rows-requires c =
    let m : _ = datagram-passed c.args.reduced c.args.d.now c.in_ok-n.n (search rules) in
    (passes_agreed c.args.reduced c.args.d.now m.0, m.1, c.if-rows-n.false)

pub returns : goal.returns
returns c =
    let f : _ = rows-filled c.args.reduced c.args.d.now c.args.rows.now c.in_ok-n.n (search rules) c.if-rows-n.false in
    (f.0, c.fill_rows.ensures ∙ f.1)
