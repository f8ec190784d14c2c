-- As in `search::place_among`, over the members.
use Rattle.table.proofs.Laws.Search.{Searching}
use Rattle.table.proofs.Table.place_of.Given as goal

abbrev pub invariant-loop-place : goal.invariant-loop-place
invariant-loop-place l = Searching l.source l.self.held l.self.members l.word l.place
