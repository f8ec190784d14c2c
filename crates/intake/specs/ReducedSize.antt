-- Change request E2 of a whole datagram taken in: 4 is given only where reduced-size RTCP was not agreed, and but for 4
-- answer, table and list are the same whether or not it was.
use Rattle.std.specs.Prelude.{ℕ, ◌≡◌, List, true, false}
use Rattle.origin.specs.declared.Origin.{Origin}
use Rattle.refusals.specs.Refusals.{bad_first}
use Rattle.register.specs.declared.Reading.{Reading}
use Rattle.table.specs.declared.Table.{Table}
use Rattle.intake.specs.Datagrams.{datagram_answered, answers_after}

-- the request, of every datagram that is taken into any table
pub record EveryDatagramTaken : Type 0 where
  pub alike :
      (d : List ℕ) (t : Table) (origin : Origin) (at : Reading) (lent : List ℕ)
      → ((datagram_answered t false d origin at lent).number ≡ bad_first → ⊥)
      → (datagram_answered t true d origin at lent ≡ datagram_answered t false d origin at lent)
      × (answers_after t true d origin at lent ≡ answers_after t false d origin at lent)
  pub never_four :
      (d : List ℕ) (t : Table) (origin : Origin) (at : Reading) (lent : List ℕ)
      → (datagram_answered t true d origin at lent).number ≡ bad_first → ⊥
