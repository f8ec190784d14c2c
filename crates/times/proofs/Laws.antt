-- Laws of times. Those of `unwrapped` know what a step of 0 means; `delay_positive`, `delay_bound` and
-- `expanded_by_delay` say only what holds of any presentation after arrival.
use Prim.Native.Nat.{ℕ, ◌+◌, ◌-◌, ◌%◌, ◌^◌, ◌≤◌, ◌<◌}
use mathlib.Core.Path.{◌≡◌, refl, ap}
use mathlib.Core.Bool.{Bool, true, false}
use lib.Dec.{eqb}
use native.Mathlib.Omega.{arith}
use borrow.Author.Tests.{eqb-true, eqb-false}
use Rattle.times.specs.Times.{difference_mod, step, unwrapped, expanded, delay}
use Rattle.times.proofs.Steps.{step-zero, step_other}

-- ---- presentation

module _ (received presented : ℕ) where
  step_bound : step received presented < 2 ^ 32
  unfolding step difference_mod
  step_bound = omega arith

  -- a sample is presented after it was received, and at most 2^48 units later
  pub unwrapped_bounds :
      (received + 1 ≤ unwrapped received presented) × (unwrapped received presented ≤ received + 2 ^ 48)
  unwrapped_bounds = go (eqb (step received presented) 0) refl
    where
      go :
          (t : Bool) → eqb (step received presented) 0 ≡ t
          → (received + 1 ≤ unwrapped received presented) × (unwrapped received presented ≤ received + 2 ^ 48)
      go true e =
          let sum : _ = step-zero received presented (eqb-true (step received presented) 0 e) in
          (omega (arith, sum), omega (arith, sum))
      go false e =
          let other : _ = eqb-false (step received presented) 0 e in
          let sum : _ = step_other received presented other in
          (omega (arith, sum, other, step_bound), omega (arith, sum, step_bound))

-- ---- delay and expanded

-- a sample is presented after it was received
pub delay_positive : (received presented : ℕ) → 1 ≤ delay received presented
unfolding delay
delay_positive received presented = omega (arith, unwrapped_bounds received presented)

pub delay_bound : (received presented : ℕ) → delay received presented ≤ 2 ^ 48
unfolding delay
delay_bound received presented = omega (arith, unwrapped_bounds received presented)

-- the expanded presentation is received plus the delay, modulo 2^64
pub expanded_by_delay :
    (received presented : ℕ) → expanded received presented ≡ (received + delay received presented) % 2 ^ 64
unfolding expanded delay
expanded_by_delay received presented =
    let bounds : _ = unwrapped_bounds received presented in
    let same : unwrapped received presented ≡ received + (unwrapped received presented - received) = omega arith in
    ap (λ (n : ℕ). n % 2 ^ 64) same
