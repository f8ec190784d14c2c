-- Laws of `flat` and `puts`, for things of any width.
use Prim.Native.Nat.{ℕ, suc, ◌+◌, ◌*◌, ◌≤◌}
use mathlib.Core.Path.{◌≡◌, refl, sym, ap, ◌∙◌}
use mathlib.Core.List.{List, [], ◌∷◌, ◌++◌, append_assoc}
use lib.ListN.{length, take, drop, length-append}
use lib.Seq.{paste, paste-zero, take-paste, drop-paste, length-paste, drop-drop, take_all}
use native.Mathlib.Nat.{mul-suc, mul-zero}
use native.Mathlib.Omega.{arith}
use Rattle.rtcp.specs.Puts.{flat, puts}

module _ {A : Type 0} (cells : A → List ℕ) (width : ℕ) (wide : (x : A) → length (cells x) ≡ width) where
  pub length-flat : (l : List A) → length (flat cells l) ≡ width * length l
  length-flat [] = sym (mul-zero width)
  length-flat (x ∷ l) =
      length-append (cells x) (flat cells l)
      ∙ let n : width * suc (length l) ≡ width * length l + width = mul-suc width (length l) in
      omega (arith, wide x, length-flat l)

  -- one thing changes no length
  pub length_put_one :
      (array : List ℕ) (at : ℕ) (x : A) → at + width ≤ length array → length (paste array at (cells x) width) ≡ length array
  length_put_one array at x h = length-paste array at (cells x) width h (omega (arith, wide x))

  pub puts-all :
      (l : List A) (array : List ℕ) (at : ℕ) → at + width * length l ≤ length array
      → puts cells width array at l ≡ take at array ++ flat cells l ++ drop (at + width * length l) array
  puts-all [] array at h =
      paste-zero array at []
      ∙ let none : 0 ≡ width * 0 = sym (mul-zero width) in
      ap (λ (k : ℕ). take at array ++ [] ++ drop (at + k) array) none
  puts-all (x ∷ l) array at h =
      let n : width * suc (length l) ≡ width * length l + width = mul-suc width (length l) in
      let one : length (paste array at (cells x) width) ≡ length array = length_put_one array at x (omega arith) in
      let whole : width ≤ length (cells x) = omega (arith, wide x) in
      let front : take (at + width) (paste array at (cells x) width) ≡ take at array ++ cells x =
      take-paste array at (cells x) width (omega arith) whole
      ∙ ap (λ (r : List ℕ). take at array ++ r) (take_all width (cells x) (omega (arith, wide x))) in
      let same : at + width + width * length l ≡ at + width * length (x ∷ l) = omega arith in
      let back : drop (at + width + width * length l) (paste array at (cells x) width) ≡ drop (at + width * length (x ∷ l)) array =
      sym (drop-drop (width * length l) (at + width) (paste array at (cells x) width))
      ∙ ap (drop (width * length l)) (drop-paste array at (cells x) width (omega arith) whole)
      ∙ drop-drop (width * length l) (at + width) array
      ∙ ap (λ (k : ℕ). drop k array) same in
      puts-all l (paste array at (cells x) width) (at + width) (omega (arith, one))
      ∙ ap (λ (r : List ℕ). r ++ flat cells l ++ drop (at + width + width * length l) (paste array at (cells x) width)) front
      ∙ ap (λ (r : List ℕ). take at array ++ cells x ++ flat cells l ++ r) back
      ∙ ap (λ (r : List ℕ). r ++ drop (at + width * length (x ∷ l)) array) (append_assoc (take at array) (cells x) (flat cells l))

  -- from the first place on, nothing stands before them
  pub puts_front :
      (l : List A) (array : List ℕ) → width * length l ≤ length array
      → puts cells width array 0 l ≡ flat cells l ++ drop (width * length l) array
  puts_front l array h =
      let all : 0 + width * length l ≡ width * length l = omega arith in
      puts-all l array 0 (omega arith) ∙ ap (λ (k : ℕ). flat cells l ++ drop k array) all

  pub length-puts :
      (l : List A) (array : List ℕ) (at : ℕ) → at + width * length l ≤ length array
      → length (puts cells width array at l) ≡ length array
  length-puts [] array at h = refl
  length-puts (x ∷ l) array at h =
      let n : width * suc (length l) ≡ width * length l + width = mul-suc width (length l) in
      let one : _ = length_put_one array at x (omega arith) in
      length-puts l (paste array at (cells x) width) (at + width) (omega (arith, one)) ∙ one

  pub puts-append :
      (l m : List A) (array : List ℕ) (at : ℕ)
      → puts cells width array at (l ++ m) ≡ puts cells width (puts cells width array at l) (at + width * length l) m
  puts-append [] m array at =
      let none : at ≡ at + width * 0 = omega (arith, mul-zero width) in
      ap (λ (k : ℕ). puts cells width array k m) none
  puts-append (x ∷ l) m array at =
      let n : width * suc (length l) ≡ width * length l + width = mul-suc width (length l) in
      let same : at + width + width * length l ≡ at + width * length (x ∷ l) = omega arith in
      puts-append l m (paste array at (cells x) width) (at + width)
      ∙ ap (λ (k : ℕ). puts cells width (puts cells width (paste array at (cells x) width) (at + width) l) k m) same
