-- A block that gives a report has its 32 bytes.
use mathlib.Core.Path.{sym, ap, ◌∙◌}
use Rattle.std.specs.Prelude.{Ok}
use native.Mathlib.Omega.{arith}
use Rattle.packet.proofs.Laws.Blocks.{met_report}
use Rattle.packet.proofs.block.block_item.Goals as goal

pub read_report-requires : goal.read_report-requires
read_report-requires c =
    let a = c.args in
    let m : _ = met_report a.d.now a.stop a.at (sym c.block_at.ensures ∙ c.in_ok-bytes.was ∙ ap Ok c.in-Report.is) in
    omega (arith, m.0.inside, m.0.within)
