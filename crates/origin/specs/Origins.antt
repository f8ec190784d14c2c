-- Origins (document 01, "The member table"): an address of sixteen bytes and a port.
use Rattle.std.specs.Prelude.{ℕ, Bool, true, false, ◌&&◌, List, [], ◌∷◌, eqb}
use Rattle.origin.specs.declared.Origin.{Origin}

-- byte for byte, and of one length
unfoldable pub same_bytes : List ℕ → List ℕ → Bool
same_bytes [] [] = true
same_bytes [] (y ∷ ys) = false
same_bytes (x ∷ xs) [] = false
same_bytes (x ∷ xs) (y ∷ ys) = eqb x y && same_bytes xs ys

-- two origins are equal when all eighteen bytes are
unfoldable pub same_origin : Origin → Origin → Bool
same_origin a b = same_bytes a.address b.address && eqb a.port b.port
