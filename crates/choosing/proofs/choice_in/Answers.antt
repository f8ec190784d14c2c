-- The row at the latest's place, with the word's ones as the count.
use mathlib.Core.Path.{sym, ap, ◌∙◌}
use lib.ListN.{get_or}
use Rattle.places.specs.Places.{held_in}
use Rattle.register.specs.declared.Record.{Record}
use Rattle.register.specs.Tallies.{records_of}
use Rattle.register.specs.Choosing.{target_of}
use Rattle.choosing.specs.Marked.{marked_at, nowhere}
use Rattle.choosing.specs.Lateness.{biased_late}
use Rattle.choosing.proofs.Laws.Marked.{row_at}
use Rattle.choosing.proofs.Laws.Candidates.{latest_target-none, latest_target_one}
use Rattle.choosing.proofs.choice_in.Goals as goal

pub returns-in-Some : goal.returns-in-Some
returns-in-Some c =
    let x = c.args in
    c.target_of.ensures
    ∙ ap (λ (row : Record). target_of row c.count_held.result) (sym (row_at x.members.now c.in-Some.latest.place))
    ∙ ap (target_of (get_or (records_of x.members.now) c.in-Some.latest.place nowhere)) c.count_held.ensures
    ∙ latest_target_one (biased_late x.rate x.at) (held_in 64 x.word) (marked_at x.word (records_of x.members.now)) _
    c.in-Some.ensures.2

pub returns-in-None : goal.returns-in-None
returns-in-None c =
    let x = c.args in
    latest_target-none (biased_late x.rate x.at) (held_in 64 x.word) (marked_at x.word (records_of x.members.now))
    c.in-None.ensures
