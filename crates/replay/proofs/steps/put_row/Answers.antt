-- The part of the rows that is written is the three cells.
use Rattle.std.proofs.Common.{◌∙◌, sym, refl, arith}
use Rattle.std.proofs.lemmas.List.Edits.{sets-eq}
use Rattle.std.proofs.lemmas.Slice.{put_mid-paste}
use Rattle.replay.specs.Steps.{cells_of}
use Rattle.replay.proofs.steps.put_row.Goals as goal

pub returns : goal.returns
returns c =
    let rows = c.args.rows.now in
    let cells = cells_of c.args.row in
    put_mid-paste c.args.at _ rows c.copy_from_slice.new.self cells 3 c.copy_from_slice.ensures.after (omega arith) refl
    ∙ sym (sets-eq cells rows c.args.at c.requires)
