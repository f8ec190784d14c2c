-- A source of a BYE packet (RFC 3550 section 6.6): document 01's farewell.
use Rattle.std.specs.Prelude.{ℕ, List}
use Rattle.idms.specs.declared.Item.{Item}
use Rattle.idms.specs.declared.Placed.{Placed}
use Rattle.packet.specs.Bytes.{be32}

abbrev pub farewell_item : List ℕ → ℕ → Placed
farewell_item d at = record { place = at; item = Item.Farewell (be32 d at) }
