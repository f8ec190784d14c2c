-- The run over all records ends: each takes bytes off the front.
use Rattle.std.proofs.Common.{length}
use Rattle.show_datagram.proofs.records.run_cases.Given as goal

abbrev pub decreases-loop-rest : goal.decreases-loop-rest
decreases-loop-rest g l = length l.rest
