-- Document 02, E3 (specs/Wired.antt).
use Prim.Native.Nat.{ℕ, ◌+◌, ◌-◌, ◌%◌, ◌^◌, ◌<◌}
use mathlib.Core.Path.{◌≡◌, refl, sym}
use mathlib.Core.Bool.{Bool, true, false, ◌||◌}
use lib.Dec.{ltb, eqb}
use native.Mathlib.Omega.{arith}
use borrow.Author.Tests.{eqb-true, eqb-false, eq-eqb, ne_eqb, le-ltb}
use Rattle.times.specs.Times.{difference_mod, step, unwrapped, expanded, delay, thirty_seconds}
use Rattle.times.specs.Wired.{SharesSlot, OneUnit, AsBefore, WiredUnits}
use Rattle.times.proofs.Steps.{step-zero, step_other}

module _ (received presented : ℕ) (small : received < 2 ^ 64) (short : presented < 2 ^ 32) where
  shared_step : SharesSlot received presented → step received presented ≡ 0
  unfolding step difference_mod
  shared_step e = omega (arith, e)

  other_step : (SharesSlot received presented → ⊥) → step received presented ≡ 0 → ⊥
  unfolding step difference_mod
  other_step h z = h (omega (arith, z))

  -- a delay of 1 is not over 30 s, so that 17 says that the expanded presentation is 0
  refused-last :
      (t : Bool) → eqb received 0xFFFFFFFFFFFFFFFF ≡ t
      → (ltb thirty_seconds (received + 1 - received) || eqb ((received + 1) % 2 ^ 64) 0) ≡ t
  refused-last true e =
      let last : _ = eqb-true received 0xFFFFFFFFFFFFFFFF e in
      rw (le-ltb thirty_seconds (received + 1 - received) (omega arith))
      (eq-eqb ((received + 1) % 2 ^ 64) 0 (omega (arith, last)))
  refused-last false e =
      let before : _ = eqb-false received 0xFFFFFFFFFFFFFFFF e in
      rw (le-ltb thirty_seconds (received + 1 - received) (omega arith))
      (ne_eqb ((received + 1) % 2 ^ 64) 0 (λ z. before (omega (arith, z))))

  one_unit : SharesSlot received presented → OneUnit received presented
  unfolding expanded delay
  one_unit e =
      let sum : received + 1 ≡ unwrapped received presented =
      omega (arith, step-zero received presented (shared_step e)) in
      record {
        expands = rw (sym sum) refl;
        delays = rw (sym sum) (omega arith);
        refused = rw (sym sum) (refused-last (eqb received 0xFFFFFFFFFFFFFFFF) refl);
      }

  as_before : (SharesSlot received presented → ⊥) → AsBefore received presented
  unfolding expanded delay step difference_mod
  as_before h =
      let sum : _ = step_other received presented (other_step h) in
      record { expands = rw (sym sum) refl; delays = rw (sym sum) refl; refused = rw (sym sum) refl }

pub wired_units : WiredUnits
wired_units received presented small short =
    (one_unit received presented small short, as_before received presented small short)
