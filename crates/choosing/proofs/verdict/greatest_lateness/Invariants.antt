-- After as many places the greatest of the rows so far.
use Rattle.register.specs.Tallies.{records_of}
use Rattle.choosing.proofs.Laws.Verdict.{GreatestSoFar}
use Rattle.choosing.proofs.verdict.greatest_lateness.Given as goal

abbrev pub invariant-loop-member : goal.invariant-loop-member
invariant-loop-member l = GreatestSoFar l.rate l.at l.word (records_of l.members) l.most l.rest l.member-index
