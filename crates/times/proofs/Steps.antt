-- The presentation before wrapping, by its step.
use Prim.Native.Nat.{ℕ, ◌+◌, ◌*◌, ◌/◌, ◌^◌}
use mathlib.Core.Path.{◌≡◌, refl}
use borrow.Author.Tests.{eq-eqb, ne_eqb}
use Rattle.times.specs.Times.{step, unwrapped}

module _ (received presented : ℕ) where
  -- where presented is M, the presentation is one unit after received
  pub step-zero : step received presented ≡ 0 → received + 1 ≡ unwrapped received presented
  unfolding unwrapped
  step-zero z = rw (eq-eqb (step received presented) 0 z) refl

  pub step_other :
      (step received presented ≡ 0 → ⊥)
      → received / 2 ^ 16 * 2 ^ 16 + step received presented * 2 ^ 16 ≡ unwrapped received presented
  unfolding unwrapped
  step_other h = rw (ne_eqb (step received presented) 0 h) refl
