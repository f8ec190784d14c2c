-- The checks are the register's, since the counted word marks the counted rows; where none refuses, the packet is held
-- against the greatest of them.
use mathlib.Core.Path.{◌≡◌, ap, sym, ◌∙◌}
use Rattle.std.proofs.Common.{rules, Err}
use Rattle.register.specs.Tallies.{records_of}
use Rattle.choosing.specs.Choose.{counted_in}
use Rattle.choosing.proofs.Laws.Verdict.{refused-counted, judged-counted}
use Rattle.choosing.proofs.verdict.verdict_at.Goals as goal

pub returns-in_err-settings_number : goal.returns-in_err-settings_number
returns-in_err-settings_number c =
    let x = c.args in
    let same : c.from_residual.result ≡ Err c.in_err-settings_number.field-0.0 =
    search (rules, c.from_residual.ensures) in
    same
    ∙ refused-counted x.opening x.at x.held (records_of x.members) x.s x.slack _
    (c.counted_word-counted.ensures ∙ ap counted_in c.marks_at.ensures)
    c.in_err-settings_number.field-0.0
    (sym c.in_err-settings_number.was ∙ c.settings_number.ensures)

pub returns : goal.returns
returns c =
    let x = c.args in
    let most = c.greatest_lateness-most.ensures in
    let late = c.settings_lateness-late.ensures in
    judged-counted x.opening x.at x.held (records_of x.members) x.s x.slack _
    (c.counted_word-counted.ensures ∙ ap counted_in c.marks_at.ensures)
    (sym c.in_ok-settings_number.was ∙ c.settings_number.ensures)
    c.is_within.result
    (rw (most, late) at c.is_within.ensures)
