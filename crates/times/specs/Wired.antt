-- Document 02, E3, over the definitions that the checks and the choice cite, in numbers (theorem: proofs/Wired.antt).
use Rattle.std.specs.Prelude.{ℕ, ◌+◌, ◌-◌, ◌*◌, ◌/◌, ◌%◌, ◌^◌, ◌<◌, ◌||◌, ◌≡◌, ltb, eqb}
use Rattle.times.specs.Times.{expanded, delay, is_badly_presented}

-- a step of 0: presented and received share one slot of 2^-16 s
abbrev pub SharesSlot : ℕ → ℕ → Type 0
SharesSlot received presented = presented ≡ received / 2 ^ 16 % 2 ^ 32

-- expanded presentation received plus one unit of 2^-32 s, modulo 2^64, and delay 1; 17 for received FFFFFFFF FFFFFFFF
-- alone
pub record OneUnit (received presented : ℕ) : Type 0 where
  pub expands : expanded received presented ≡ (received + 1) % 2 ^ 64
  pub delays : delay received presented ≡ 1
  pub refused : is_badly_presented received presented ≡ eqb received 0xFFFFFFFFFFFFFFFF

-- the presentation before wrapping, as document 01 has it for other steps
abbrev pub by_step : ℕ → ℕ → ℕ
by_step received presented =
    received / 2 ^ 16 * 2 ^ 16 + (presented + 2 ^ 32 - received / 2 ^ 16 % 2 ^ 32) % 2 ^ 32 * 2 ^ 16

-- expanded presentation, delay and 17 as document 01 has them
pub record AsBefore (received presented : ℕ) : Type 0 where
  pub expands : expanded received presented ≡ by_step received presented % 2 ^ 64
  pub delays : delay received presented ≡ by_step received presented - received
  pub refused :
      is_badly_presented received presented
      ≡ (ltb (30 * 2 ^ 32) (by_step received presented - received) || eqb (by_step received presented % 2 ^ 64) 0)

-- one unit where they share a slot, and everywhere else as before
abbrev pub WiredUnits : Type 0
WiredUnits =
    (received presented : ℕ) → received < 2 ^ 64 → presented < 2 ^ 32
    → (SharesSlot received presented → OneUnit received presented)
    × ((SharesSlot received presented → ⊥) → AsBefore received presented)
