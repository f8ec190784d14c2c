-- A place is a step of the walk.
use Prim.Native.Nat.{◌≤◌, ◌<◌}
use lib.ListN.{length}
use native.Mathlib.Omega.{arith}
use Rattle.register.specs.Tallies.{records_of}
use Rattle.register.proofs.Tallies.{length-rows}
use Rattle.choosing.proofs.Laws.Marked.{row_at}
use Rattle.choosing.proofs.Laws.Candidates.{latest-step, latest_end}
use Rattle.choosing.proofs.latest_marked.Goals as goal

pub loop-place-preserved : goal.loop-place-preserved
loop-place-preserved c =
    let ms = c.args.members.now in
    let within : c.loop-place.place < length (records_of ms) = omega (arith, c.well_formed, length-rows ms) in
    latest-step (omega arith) within c.loop-place.latest c.latest_next-latest.result c.loop-place.invariant
    (rw (← row_at ms c.loop-place.place) at c.latest_next-latest.ensures)

pub returns : goal.returns
returns c =
    let ms = c.args.members.now in
    let all : length (records_of ms) ≤ c.loop-place.place = omega (arith, c.well_formed, length-rows ms) in
    latest_end c.loop-place.latest all c.loop-place.invariant
