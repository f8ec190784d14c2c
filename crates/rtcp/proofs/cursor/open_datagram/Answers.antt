-- A refusal is handed on, and a count comes with a cursor before the first item.
use mathlib.Core.Path.{◌≡◌, sym, ap, ◌∙◌}
use Rattle.std.proofs.Common.{rules}
use Rattle.std.specs.Prelude.{Ok, Err}
use Rattle.rtcp.specs.declared.cursor.Cursor.{Cursor}
use Rattle.rtcp.proofs.Laws.Answers.{cursor-passed, cursor-refused}
use Rattle.rtcp.proofs.cursor.open_datagram.Goals as goal

pub returns-in_err-items : goal.returns-in_err-items
returns-in_err-items c =
    let e : c.from_residual.result ≡ Err c.in_err-items.field-0.0 = search rules in
    e ∙ sym (cursor-refused c.args.reduced c.args.d.now c.in_err-items.field-0.0 (search rules))

pub returns : goal.returns
returns c =
    ap (λ (k : Cursor). Ok (c.in_ok-items.items, k)) c.first_cursor.ensures
    ∙ sym (cursor-passed c.args.reduced c.args.d.now c.in_ok-items.items (search rules))
