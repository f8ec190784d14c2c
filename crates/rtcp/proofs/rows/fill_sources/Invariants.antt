-- A row for each source in turn; `Filling` says what is left to put.
use Prim.Native.Nat.{◌-◌, ◌%◌}
use mathlib.Core.Path.{◌≡◌}
use Rattle.datagram.specs.Datagram.{source_items}
use Rattle.rtcp.proofs.Laws.Rows.{Filling}
use Rattle.rtcp.proofs.rows.fill_sources.Given as goal

abbrev pub invariant-loop-place : goal.invariant-loop-place
invariant-loop-place l =
    ((l.stop - l.place) % 4 ≡ 0)
    × Filling l.initial.rows l.at (source_items l.d l.stop l.from) l.rows l.cell (source_items l.d l.stop l.place)
