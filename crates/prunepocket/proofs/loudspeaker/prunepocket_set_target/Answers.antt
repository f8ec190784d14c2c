-- The target that the set answers is written back, or nothing is.
use Rattle.std.proofs.Common.{◌∙◌}
use Rattle.playout.proofs.Laws.{read}
use Rattle.playout.proofs.Lent.{set-accepted, set-refused}
use Rattle.prunepocket.proofs.loudspeaker.prunepocket_set_target.Goals as goal

pub returns-in-Ok : goal.returns-in-Ok
returns-in-Ok c =
    set-accepted c.args.clock.now c.args.target c.in-Ok.written (rw (read c.ranges.target) at c.in-Ok.ensures)

pub returns-in-Err : goal.returns-in-Err
returns-in-Err c =
    let refused =
    set-refused c.args.clock.now c.args.target c.in-Err.refused (rw (read c.ranges.target) at c.in-Err.ensures) in
    (c.number.ensures ∙ refused.0, refused.1)
