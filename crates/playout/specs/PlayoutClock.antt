-- The playout clock of a loudspeaker (document 02, E10): its current lateness, its target and its greatest step, three
-- whole numbers of one unit. What each call on its record answers, and the record afterwards.
use Rattle.std.specs.Prelude.{ℕ, ◌^◌, Bool, cond, ◌||◌, List, [], ◌∷◌, eqb, Result, Ok, Err, ℤ, pos, neg_ℤ, ◌+ℤ◌, ◌-ℤ◌}
use Rattle.std.specs.Int.Signed.{lt_z, le_z}
use Rattle.std.specs.Result.{result_and}
use Rattle.refusals.specs.declared.RefusalNumber.{RefusalNumber}
use Rattle.refusals.specs.Refusals.{answer_number}
use Rattle.playout.specs.declared.PlayoutClock.{PlayoutClock}

-- a tick, or a set with its target
pub data ClockCall : Type 0 where
  tick : ClockCall
  set : (target : ℤ) → ClockCall

-- ---- refusals

-- the limit of a step and of a value, 2^57; the least value is minus that
abbrev pub lateness_limit : ℤ
lateness_limit = pos (2 ^ 57)

-- 26: step below 1 or over 2^57
abbrev pub is_bad_step : ℤ → Bool
is_bad_step step = lt_z step (pos 1) || lt_z lateness_limit step

-- 27: a value outside plus or minus 2^57
abbrev pub is_outside : ℤ → Bool
is_outside value = lt_z value (neg_ℤ lateness_limit) || lt_z lateness_limit value

-- 26 first, then 27: the first that applies to a record, if any does
unfoldable pub clock_checks : PlayoutClock → Result Unit RefusalNumber
clock_checks c =
    cond (is_bad_step c.step) (Err RefusalNumber.BadStep)
    (cond (is_outside c.current || is_outside c.target) (Err RefusalNumber.OutsideRange)
    (Ok tt))

-- a record with another target
abbrev pub with_target : PlayoutClock → ℤ → PlayoutClock
with_target c target = record { current = c.current; target = target; step = c.step }

-- what a call answers, the refusal's number or 0: a set is judged on the record that it would make, a tick on the one
-- that it is given
abbrev pub clock_answer : PlayoutClock → ClockCall → ℕ
clock_answer c ClockCall.tick = answer_number (clock_checks c)
clock_answer c (ClockCall.set target) = answer_number (clock_checks (with_target c target))

-- ---- the record afterwards

abbrev pub lesser : ℤ → ℤ → ℤ
lesser a b = cond (le_z a b) a b

-- current moved towards target by the lesser of the step and what is left
unfoldable pub towards : (current target step : ℤ) → ℤ
towards current target step =
    cond (le_z current target)
    (current +ℤ lesser step (target -ℤ current))
    (current -ℤ lesser step (current -ℤ target))

-- an accepted tick writes current alone, an accepted set target alone
abbrev pub clock_accepted : PlayoutClock → ClockCall → PlayoutClock
clock_accepted c ClockCall.tick =
    record { current = towards c.current c.target c.step; target = c.target; step = c.step }
clock_accepted c (ClockCall.set target) = with_target c target

-- refused, a call leaves the record unchanged
unfoldable pub clock_after : PlayoutClock → ClockCall → PlayoutClock
clock_after c call = cond (eqb (clock_answer c call) 0) (clock_accepted c call) c

-- ---- a call's refusal, or afterwards the one field that it may write

abbrev pub ticked : PlayoutClock → Result ℤ RefusalNumber
ticked c = result_and (clock_checks c) (Ok (clock_after c ClockCall.tick).current)

abbrev pub target_set : PlayoutClock → ℤ → Result ℤ RefusalNumber
target_set c target = result_and (clock_checks (with_target c target)) (Ok (clock_after c (ClockCall.set target)).target)

-- ---- any list of calls, with nothing else between: every answer, and the record afterwards

unfoldable pub clock_answers : PlayoutClock → List ClockCall → List ℕ
clock_answers c [] = []
clock_answers c (call ∷ calls) = clock_answer c call ∷ clock_answers (clock_after c call) calls

unfoldable pub clock_after_all : PlayoutClock → List ClockCall → PlayoutClock
clock_after_all c [] = c
clock_after_all c (call ∷ calls) = clock_after_all (clock_after c call) calls
