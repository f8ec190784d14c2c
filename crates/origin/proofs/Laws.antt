-- What the loop over the bytes of two addresses uses, and what proofs of other crates cite.
use Prim.Native.Nat.{ℕ, suc, ◌+◌, ◌≤◌, ◌<◌}
use mathlib.Core.Bool.{true, false, ◌&&◌}
use mathlib.Core.List.{List}
use mathlib.Core.Path.{◌≡◌, refl}
use lib.Dec.{eqb}
use lib.ListN.{length, get_or, drop, drop_of_length-le}
use lib.Seq.{drop-cons}
use native.Mathlib.Numerals.{add-one}
use borrow.Author.Tests.{eq-eqb, ne_eqb}
use Rattle.origin.specs.Origins.{same_bytes}
pub use Rattle.origin.specs.Laws.{same_origin_equal, equal_same_origin}

-- ---- one byte more, and the end

module _ (xs ys : List ℕ) (i : ℕ) where
  module _ (h : i < length xs) (k : i < length ys) where
    same_step :
        same_bytes (drop i xs) (drop i ys)
        ≡ (eqb (get_or xs i 0) (get_or ys i 0) && same_bytes (drop (suc i) xs) (drop (suc i) ys))
    unfolding same_bytes
    same_step = rw (drop-cons xs i 0 h, drop-cons ys i 0 k) refl

    pub same_unlike : (get_or xs i 0 ≡ get_or ys i 0 → ⊥) → same_bytes (drop i xs) (drop i ys) ≡ false
    same_unlike e = rw (same_step, ne_eqb (get_or xs i 0) (get_or ys i 0) e) refl

    pub same_alike :
        get_or xs i 0 ≡ get_or ys i 0 → same_bytes (drop i xs) (drop i ys) ≡ same_bytes (drop (i + 1) xs) (drop (i + 1) ys)
    same_alike e = rw (same_step, eq-eqb (get_or xs i 0) (get_or ys i 0) e, add-one i) refl

  pub same_end : length xs ≤ i → length ys ≤ i → same_bytes (drop i xs) (drop i ys) ≡ true
  unfolding same_bytes
  same_end h k = rw (drop_of_length-le xs h, drop_of_length-le ys k) refl
