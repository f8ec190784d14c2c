-- After as many places the latest goes before all rows so far.
use Rattle.register.specs.Tallies.{records_of}
use Rattle.choosing.proofs.Laws.Candidates.{LatestSoFar}
use Rattle.choosing.proofs.latest_marked.Given as goal

abbrev pub invariant-loop-place : goal.invariant-loop-place
invariant-loop-place l = LatestSoFar l.rate l.at l.word (records_of l.members) l.latest l.rest l.place
