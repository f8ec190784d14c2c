-- `same_origin` is equality: the laws that `PartialEq` and `Eq` ask for.
use Prim.Native.Nat.{ℕ}
use mathlib.Core.Bool.{true, false≢true, and-eq-true_iff}
use mathlib.Core.List.{List, [], ◌∷◌}
use mathlib.Core.Path.{◌≡◌, refl, sym, ap, ◌∙◌}
use lib.Dec.{eqb}
use borrow.Author.Tests.{eqb-true, eq-eqb}
use Rattle.std.specs.Cmp.{IsPartialEquivalence, IsEquivalence, both_ways, partial_equiv_from_equiv}
use Rattle.origin.specs.declared.Origin.{Origin}
use Rattle.origin.specs.Origins.{same_bytes, same_origin}

-- ---- equality

same_bytes_equal : (xs ys : List ℕ) → same_bytes xs ys ≡ true → xs ≡ ys
unfolding same_bytes
same_bytes_equal [] [] e = refl
same_bytes_equal [] (y ∷ ys) e = absurd (false≢true e)
same_bytes_equal (x ∷ xs) [] e = absurd (false≢true e)
same_bytes_equal (x ∷ xs) (y ∷ ys) e =
    let both : _ = (and-eq-true_iff (eqb x y) (same_bytes xs ys)).0 e in
    ap (λ (z : ℕ). z ∷ xs) (eqb-true x y both.0) ∙ ap (λ (zs : List ℕ). y ∷ zs) (same_bytes_equal xs ys both.1)

equal_same_bytes : (xs : List ℕ) → same_bytes xs xs ≡ true
unfolding same_bytes
equal_same_bytes [] = refl
equal_same_bytes (x ∷ xs) = rw (eq-eqb x x refl) (equal_same_bytes xs)

pub same_origin_equal : (a b : Origin) → same_origin a b ≡ true → a ≡ b
unfolding same_origin
same_origin_equal a b e =
    let both : _ = (and-eq-true_iff (same_bytes a.address b.address) (eqb a.port b.port)).0 e in
    let address : a.address ≡ b.address = same_bytes_equal a.address b.address both.0 in
    let port : a.port ≡ b.port = eqb-true a.port b.port both.1 in
    ap (λ (x : List ℕ). record { address = x; port = a.port }) address
    ∙ ap (λ (n : ℕ). record { address = b.address; port = n }) port

pub equal_same_origin : (a : Origin) → same_origin a a ≡ true
unfolding same_origin
equal_same_origin a = rw (equal_same_bytes a.address, eq-eqb a.port a.port refl) refl

-- ---- the laws of `PartialEq` and `Eq`

same_origin_back : (a b : Origin) → same_origin a b ≡ true → same_origin b a ≡ true
same_origin_back a b e =
    ap (λ (x : Origin). same_origin x a) (sym (same_origin_equal a b e)) ∙ equal_same_origin a

pub same_origin_equiv : IsEquivalence same_origin
same_origin_equiv = record {
  refl = equal_same_origin;
  symm = λ a b. both_ways (same_origin a b) (same_origin b a) (same_origin_back a b) (same_origin_back b a);
  congr = λ a b c e. ap (λ (x : Origin). same_origin x c) (same_origin_equal a b e);
}

pub same_origin_per : IsPartialEquivalence same_origin
same_origin_per = partial_equiv_from_equiv same_origin_equiv
