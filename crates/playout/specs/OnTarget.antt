-- Document 02, E10, as sentences over the calls on a record, their answers and the record (theorems: proofs/Theorems.antt).
-- Of every record of three whole numbers, and every call.
--
-- To be believed besides: of `refusals` 26 and 27; of PlayoutClock `ClockCall`, and `clock_answers` and `clock_after_all`,
-- which make one call after the other. Nothing else of it: `clock_answer` and `clock_after` stand for what
-- `prunepocket_tick` and `prunepocket_set_target` answer and leave in the record.
use Rattle.std.specs.Prelude.{ℕ, ◌+◌, ◌-◌, ◌/◌, ◌^◌, ◌≤◌, ◌<◌, List, ◌∷◌, ◌⊎◌, ◌↔◌, ◌≡◌, ℤ, pos, neg_ℤ, nat_abs, ◌-ℤ◌, replicate, ◌≤ℤ◌, ◌<ℤ◌}
use Rattle.refusals.specs.Refusals.{bad_step, outside_range}
use Rattle.playout.specs.declared.PlayoutClock.{PlayoutClock}
use Rattle.playout.specs.PlayoutClock.{ClockCall, clock_answer, clock_after, clock_answers, clock_after_all}

-- ---- refusals

-- the record that a call is judged on: the one that a set would make, or that a tick is given
abbrev pub judged : PlayoutClock → ClockCall → PlayoutClock
judged c ClockCall.tick = c
judged c (ClockCall.set target) = record { current = c.current; target = target; step = c.step }

-- 26: step below 1 or over 2^57
abbrev pub BadStep : ℤ → Type 0
BadStep step = (step <ℤ pos 1) ⊎ (pos (2 ^ 57) <ℤ step)

-- a value outside plus or minus 2^57
abbrev pub Outside : ℤ → Type 0
Outside value = (value <ℤ neg_ℤ (pos (2 ^ 57))) ⊎ (pos (2 ^ 57) <ℤ value)

-- 27: current or target is
abbrev pub OutsideRange : PlayoutClock → Type 0
OutsideRange c = Outside c.current ⊎ Outside c.target

-- each number exactly where its line applies, 26 first; a refused call leaves the record unchanged
pub record ClockRefusals (c : PlayoutClock) (call : ClockCall) : Type 0 where
  pub bad_step_refused : (clock_answer c call ≡ bad_step) ↔ BadStep (judged c call).step
  pub outside_range_refused :
      (clock_answer c call ≡ outside_range) ↔ ((BadStep (judged c call).step → ⊥) × OutsideRange (judged c call))
  pub accepted :
      (clock_answer c call ≡ 0) ↔ ((BadStep (judged c call).step → ⊥) × (OutsideRange (judged c call) → ⊥))
  pub unchanged : (clock_answer c call ≡ 0 → ⊥) → clock_after c call ≡ c

abbrev pub EveryClockCall : Type 0
EveryClockCall = (c : PlayoutClock) (call : ClockCall) → ClockRefusals c call

-- ---- a tick

-- how far apart two values are
abbrev pub apart : ℤ → ℤ → ℕ
apart a b = nat_abs (a -ℤ b)

-- a value from one to another, both included
abbrev pub Between : (from to value : ℤ) → Type 0
Between from to value =
    (from ≤ℤ to → (from ≤ℤ value) × (value ≤ℤ to)) × (to ≤ℤ from → (to ≤ℤ value) × (value ≤ℤ from))

pub record TickRules (c : PlayoutClock) : Type 0 where
  -- accepted: left afterwards is what was left less the step, and nothing where that was no more than the step
  pub moved :
      clock_answer c ClockCall.tick ≡ 0 →
      apart c.target (clock_after c ClockCall.tick).current ≡ apart c.target c.current - nat_abs c.step
  -- accepted or refused: it does not pass the target, the distance does not grow, and target and step are as they were
  pub not_past : Between c.current c.target (clock_after c ClockCall.tick).current
  pub no_farther : apart c.target (clock_after c ClockCall.tick).current ≤ apart c.target c.current
  pub target_kept : (clock_after c ClockCall.tick).target ≡ c.target
  pub step_kept : (clock_after c ClockCall.tick).step ≡ c.step

abbrev pub EveryTick : Type 0
EveryTick = (c : PlayoutClock) → TickRules c

-- ---- a target that is set

-- m ticks
abbrev pub ticks : ℕ → List ClockCall
ticks m = replicate m ClockCall.tick

-- the difference divided by the step, rounded up
abbrev pub ticks_to : PlayoutClock → (target : ℤ) → ℕ
ticks_to c target = (apart target c.current + (nat_abs c.step - 1)) / nat_abs c.step

-- a set, and then m ticks
pub record SetAndTicked (c : PlayoutClock) (target : ℤ) (m : ℕ) : Type 0 where
  -- every tick is accepted
  pub accepted : clock_answers c (ClockCall.set target ∷ ticks m) ≡ 0 ∷ replicate m 0
  pub target_kept : (clock_after_all c (ClockCall.set target ∷ ticks m)).target ≡ target
  pub step_kept : (clock_after_all c (ClockCall.set target ∷ ticks m)).step ≡ c.step
  -- exactly on it after so many ticks and from then on, and not sooner
  pub on_target : ticks_to c target ≤ m → (clock_after_all c (ClockCall.set target ∷ ticks m)).current ≡ target
  pub not_sooner : m < ticks_to c target → (clock_after_all c (ClockCall.set target ∷ ticks m)).current ≡ target → ⊥

-- the request: a set that is accepted writes the target alone, and so many ticks later the clock is on it
abbrev pub EverySet : Type 0
EverySet =
    (c : PlayoutClock) (target : ℤ) → clock_answer c (ClockCall.set target) ≡ 0 →
    (clock_after c (ClockCall.set target) ≡ judged c (ClockCall.set target)) × ((m : ℕ) → SetAndTicked c target m)
