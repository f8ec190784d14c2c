-- Laws of an entry's row.
use Prim.Native.Nat.{ℕ, ◌+◌, ◌≤◌}
use mathlib.Core.Path.{◌≡◌, refl, sym, ap, ◌∙◌}
use mathlib.Core.Bool.{Bool, true, false, cond}
use mathlib.Core.List.{List, [], ◌∷◌}
use lib.Dec.{eqb}
use native.Mathlib.Omega.{arith}
use borrow.Author.Tests.{eqb-true}
use Rattle.replay.specs.declared.steps.Row.{Row}
use Rattle.replay.specs.Replay.{accepted_in, first_refusal}
use Rattle.replay.specs.Steps.{first_of_two, row_after, cells_of, row_with_more}

pub first_of_two-none : (number : ℕ) → first_of_two number 0 ≡ number
first_of_two-none number = go (eqb number 0) refl
  where
    go : (b : Bool) → eqb number 0 ≡ b → first_of_two number 0 ≡ number
    go true e = rw e (sym (eqb-true number 0 e))
    go false e = rw e refl

first_of_two_kept : (a b : ℕ) → eqb a 0 ≡ false → first_of_two a b ≡ a
first_of_two_kept a b e = rw e refl

-- the first of three numbers
first_of_two_more : (a b c : ℕ) → first_of_two a (first_of_two b c) ≡ first_of_two (first_of_two a b) c
first_of_two_more a b c = go (eqb a 0) refl
  where
    go : (t : Bool) → eqb a 0 ≡ t → first_of_two a (first_of_two b c) ≡ first_of_two (first_of_two a b) c
    go true e = rw e refl
    go false e =
        first_of_two_kept a (first_of_two b c) e
        ∙ sym (first_of_two_kept a c e)
        ∙ ap (λ (n : ℕ). first_of_two n c) (sym (first_of_two_kept a b e))

accepted_more : (t : Bool) (n m : ℕ) → n + cond t (1 + m) m ≡ cond t (n + 1) n + m
accepted_more true n m = omega arith
accepted_more false n m = omega arith

-- ---- the row that a row so far becomes

-- with one call more behind it, or with the call's number in it
pub row_more :
    (row : Row) (number : ℕ) (numbers : List ℕ)
    → row_with_more row (number ∷ numbers) ≡ row_with_more (row_after row number) numbers
unfolding row_after accepted_in first_refusal
row_more row number numbers =
    let after = row_after row number in
    let sum : row.accepted + accepted_in (number ∷ numbers) ≡ after.accepted + accepted_in numbers =
    accepted_more (eqb number 0) row.accepted (accepted_in numbers) in
    ap (λ (n : ℕ). row.items ∷ n ∷ first_of_two row.number (first_refusal (number ∷ numbers)) ∷ []) sum
    ∙ ap (λ (n : ℕ). row.items ∷ (after.accepted + accepted_in numbers) ∷ n ∷ [])
    (first_of_two_more row.number number (first_refusal numbers))

pub row_whole : (row : Row) → row_with_more row [] ≡ cells_of row
unfolding accepted_in first_refusal
row_whole row =
    let sum : row.accepted + 0 ≡ row.accepted = omega arith in
    rw (sum, first_of_two-none row.number) refl

pub accepted-after : (row : Row) (number : ℕ) → (row_after row number).accepted ≤ row.accepted + 1
unfolding row_after
accepted-after row number = go (eqb number 0) refl
  where
    go : (b : Bool) → eqb number 0 ≡ b → (row_after row number).accepted ≤ row.accepted + 1
    go true e = rw e (omega arith)
    go false e = rw e (omega arith)
