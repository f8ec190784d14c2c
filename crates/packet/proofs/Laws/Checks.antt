-- Laws of checks in turn: what holds once they have passed, and what holds of a refusal.
use Prim.Native.Nat.{ℕ}
use Rattle.refusals.specs.declared.RefusalNumber.{RefusalNumber}
use mathlib.Core.Path.{◌≡◌, refl}
use mathlib.Core.Bool.{Bool, true, false}
use native.Mathlib.Omega.{arith}
use Rattle.packet.specs.Checks.{Check, passed, refused, refuse_if, and_then}

pub check_passes :
    (t : Bool) (number : RefusalNumber) (place : ℕ) (later : Check) → refuse_if t number place later ≡ passed
    → (t ≡ false) × (later ≡ passed)
check_passes false number place later h = (refl, h)
check_passes true number place later h = let z : ◌≡◌ {A = ℕ} 0 1 = cc in absurd (omega arith)

pub both_pass : (a b : Check) → and_then a b ≡ passed → (a ≡ passed) × (b ≡ passed)
both_pass passed b h = (refl, h)
both_pass (refused number place) b h = let z : ◌≡◌ {A = ℕ} 0 1 = cc in absurd (omega arith)

-- a statement about the number and the place of every refusal that a check gives
abbrev pub Refuses : (RefusalNumber → ℕ → Type 0) → Check → Type 0
Refuses P check = (number : RefusalNumber) (place : ℕ) → check ≡ refused number place → P number place

module _ (P : RefusalNumber → ℕ → Type 0) where
  pub passed_refuses : Refuses P passed
  passed_refuses number place e = let z : ◌≡◌ {A = ℕ} 0 1 = cc in absurd (omega arith)

  pub refuse_if_refuses :
      (t : Bool) (n : RefusalNumber) (p : ℕ) (later : Check) → P n p → Refuses P later
      → Refuses P (refuse_if t n p later)
  refuse_if_refuses false n p later h rest number place e = rest number place e
  refuse_if_refuses true n p later h rest number place e =
      let a : n ≡ number = cc in
      let b : p ≡ place = cc in
      rw (a, b) at h

  pub and_then_refuses : (a b : Check) → Refuses P a → Refuses P b → Refuses P (and_then a b)
  and_then_refuses passed b f g number place e = g number place e
  and_then_refuses (refused n p) b f g number place e = f number place e
