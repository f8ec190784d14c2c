-- The places passed and the place among the rest make up the place.
use Rattle.table.proofs.Laws.Search.{SearchingAmong}
use Rattle.table.proofs.search.place_among.Given as goal

abbrev pub invariant-loop-place : goal.invariant-loop-place
invariant-loop-place l = SearchingAmong l.source l.held l.sources l.word l.place
