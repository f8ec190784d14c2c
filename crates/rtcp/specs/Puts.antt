-- Things of `width` numbers each, one behind the other: items as rows, words as bytes.
use Rattle.std.specs.Prelude.{ℕ, ◌+◌, List, [], ◌∷◌, ◌++◌}
use Rattle.std.proofs.Math.Seq.{paste}

-- their numbers in a row
abbrev pub flat : {A : Type 0} → (A → List ℕ) → List A → List ℕ
flat cells [] = []
flat cells (x ∷ l) = cells x ++ flat cells l

-- an array with their numbers put into it, the first at a place
abbrev pub puts : {A : Type 0} → (A → List ℕ) → ℕ → List ℕ → ℕ → List A → List ℕ
puts cells width array at [] = array
puts cells width array at (x ∷ l) = puts cells width (paste array at (cells x) width) (at + width) l
