-- The members counted are fresh, so the biased number orders them as lateness does.
use mathlib.Core.Path.{ap, ◌∙◌}
use Rattle.register.specs.Tallies.{records_of}
use Rattle.choosing.specs.Choose.{counted_in}
use Rattle.choosing.proofs.Laws.Biased.{choice-counted}
use Rattle.choosing.proofs.choice_at.Goals as goal

pub returns : goal.returns
returns c =
    let x = c.args in
    choice-counted x.rate x.at x.held (records_of x.members) c.counted_word.result
    (c.counted_word.ensures ∙ ap counted_in c.marks_at-marks.ensures)
    c.choice_in.result
    c.choice_in.ensures
