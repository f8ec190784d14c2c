-- The writer's answer, buffer and byte count handed on.
use Rattle.prunepocket.proofs.Laws.{wrote}
use Rattle.prunepocket.proofs.prunepocket_write_settings.Goals as goal

pub returns : goal.returns
returns c =
    wrote _ _ _ _ _ _ _ c.write_settings-w.ensures
    c.answer_write.ensures c.bytes_written.ensures
