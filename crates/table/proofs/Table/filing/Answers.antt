-- The filing at the place that was searched for.
use Rattle.std.proofs.Common.{◌≡◌, ◌∙◌, length, refl, arith}
use Rattle.table.proofs.Laws.Filing.{filing_searched}
use Rattle.table.proofs.Table.filing.Goals as goal

pub returns : goal.returns
returns c =
    let t = c.args.self.now in
    let long : length t.members ≡ 64 = omega (arith, c.well_formed) in
    filing_searched t c.args.x c.args.at _ _ _ _ long c.place_of-place.ensures refl
    (c.answer_number.ensures ∙ c.report_number_at-checked.ensures) c.report_filing.ensures
