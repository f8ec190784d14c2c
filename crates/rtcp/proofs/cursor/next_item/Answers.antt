-- Steps up to an item: each step that gives none keeps what comes next. The measure is what is left to step over.
use mathlib.Core.Path.{◌≡◌, sym, ◌∙◌}
use Rattle.std.proofs.Common.{rules}
use Rattle.std.specs.Prelude.{None}
use Rattle.rtcp.proofs.Laws.Cursor.{left_falls, next_item_lem, next_end, next_onward}
use Rattle.rtcp.proofs.cursor.next_item.Goals as goal

pub returns-in_err-x : goal.returns-in_err-x
returns-in_err-x c =
    let e : c.from_residual.result ≡ None = search rules in
    e ∙ sym (c.loop-x.invariant ∙ next_end c.args.d.now c.loop-x.c (search rules))

pub returns-in-Item : goal.returns-in-Item
returns-in-Item c =
    sym (c.loop-x.invariant ∙ next_item_lem c.args.d.now c.loop-x.c c.in-Item.x c.in-Item.next (search rules))

pub loop-x-smaller : goal.loop-x-smaller
loop-x-smaller c = left_falls c.args.d.now c.loop-x.c c.in-Onward.next (search rules)

pub loop-x-preserved : goal.loop-x-preserved
loop-x-preserved c = c.loop-x.invariant ∙ next_onward c.args.d.now c.loop-x.c c.in-Onward.next (search rules)
