-- The items behind the cursor are those behind as many as were passed.
use mathlib.Core.Path.{◌≡◌}
use lib.ListN.{drop}
use Rattle.rtcp.specs.Cursor.{remaining}
use Rattle.datagram.specs.Datagram.{datagram_items}
use Rattle.rtcp.proofs.Laws.Cursor.{Good}
use Rattle.rtcp.proofs.cursor.nth_item.Given as goal

abbrev pub invariant-loop : goal.invariant-loop
invariant-loop l = Good l.d l.c.state × (drop l.counter (datagram_items l.d) ≡ remaining l.d l.c.state)
