-- Document 02, E4: what the lowest free place is, in terms of `is_held` alone.
use Rattle.std.specs.Prelude.{ℕ, ◌<◌, true, false, ◌⊎◌, ◌↔◌, ◌≡◌}
use Rattle.places.specs.Places.{is_held}

-- every place below k is held
abbrev pub AllHeld : ℕ → ℕ → Type 0
AllHeld k word = (place : ℕ) → place < k → is_held place word ≡ true

-- either r is below k, place r is free and every place below r is held; or r is k and all k places are held
abbrev pub FreeOrFull : ℕ → ℕ → ℕ → Type 0
FreeOrFull k word r = ((r < k) × (is_held r word ≡ false) × AllHeld r word) ⊎ ((r ≡ k) × AllHeld k word)

-- r is the lowest free place below k, or k where none is free, and k exactly in that case
abbrev pub IsLowestFree : ℕ → ℕ → ℕ → Type 0
IsLowestFree k word r = FreeOrFull k word r × ((r ≡ k) ↔ AllHeld k word)
