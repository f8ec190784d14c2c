-- What may be written has a payload type below 128.
use mathlib.Core.Path.{sym, ◌∙◌}
use Rattle.writer.proofs.Laws.Messages.{writable}
use Rattle.writer.proofs.write_report.Goals as goal

pub words_of_report-requires : goal.words_of_report-requires
words_of_report-requires c =
    (writable _ (sym c.is_unwritable.ensures ∙ c.if-is_unwritable.false)).payload
