-- A place is a step of the walk.
use Prim.Native.Nat.{◌≤◌, ◌<◌}
use lib.ListN.{length}
use native.Mathlib.Omega.{arith}
use Rattle.register.specs.Tallies.{records_of}
use Rattle.register.proofs.Tallies.{length-rows}
use Rattle.choosing.proofs.Laws.Marked.{row_at}
use Rattle.choosing.proofs.Laws.Verdict.{greatest-step, greatest_end}
use Rattle.choosing.proofs.verdict.greatest_lateness.Goals as goal

pub loop-member-preserved : goal.loop-member-preserved
loop-member-preserved c =
    let ms = c.args.members.now in
    let i = c.loop-member.member-index in
    let within : i < length (records_of ms) = omega (arith, c.well_formed, length-rows ms) in
    greatest-step within c.loop-member.invariant (rw (← row_at ms i) at c.greatest_next-most.ensures)

pub returns : goal.returns
returns c =
    let ms = c.args.members.now in
    let all : length (records_of ms) ≤ c.loop-member.member-index = omega (arith, c.well_formed, length-rows ms) in
    greatest_end all c.loop-member.invariant
