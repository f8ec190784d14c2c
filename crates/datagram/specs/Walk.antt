-- A walk over parts that lie one behind the other, from a place up to a stop: the packets of a datagram, the blocks of
-- an XR packet, the sources of a BYE packet.
use Rattle.std.specs.Prelude.{ℕ, suc, zero, ◌+◌, ◌-◌, List, [], ◌++◌, true, false, ltb}
use Rattle.idms.specs.declared.Placed.{Placed}
use Rattle.packet.specs.Checks.{Check, passed, and_then}

-- `join` puts what is found at a part before what is found behind it, `none` is what is found at the end, and `size`
-- says how many bytes a part takes. The first argument bounds how many parts are looked at.
unfoldable pub walking : {R : Type 0} → ℕ → (ℕ → R → R) → R → (ℕ → ℕ) → ℕ → ℕ → R
walking zero join none size stop place = none
walking (suc k) join none size stop place =
    elim (ltb place stop) [
      | true ↦ join place (walking k join none size stop (place + size place))
      | false ↦ none
    ]

-- Every part takes at least a byte, so there are no more parts than bytes.
unfoldable pub walk : {R : Type 0} → (ℕ → R → R) → R → (ℕ → ℕ) → ℕ → ℕ → R
walk join none size stop place = walking (stop - place) join none size stop place

-- the first refusal of the parts in turn
abbrev pub check_each : (ℕ → Check) → (ℕ → ℕ) → ℕ → ℕ → Check
check_each check size stop place = walk (λ (p : ℕ) (later : Check). and_then (check p) later) passed size stop place

-- the items of the parts in turn
abbrev pub gives : (ℕ → List Placed) → (ℕ → ℕ) → ℕ → ℕ → List Placed
gives give size stop place = walk (λ (p : ℕ) (later : List Placed). give p ++ later) [] size stop place
