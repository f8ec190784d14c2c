-- The current that the tick answers is written back, or nothing is.
use Rattle.std.proofs.Common.{◌∙◌}
use Rattle.playout.proofs.Lent.{tick-accepted, tick-refused}
use Rattle.prunepocket.proofs.loudspeaker.prunepocket_tick.Goals as goal

pub returns-in-Ok : goal.returns-in-Ok
returns-in-Ok c = tick-accepted c.args.clock.now c.in-Ok.moved c.in-Ok.ensures

pub returns-in-Err : goal.returns-in-Err
returns-in-Err c =
    let refused = tick-refused c.args.clock.now c.in-Err.refused c.in-Err.ensures in
    (c.number.ensures ∙ refused.0, refused.1)
