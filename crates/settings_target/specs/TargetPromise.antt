-- What the answer to a settings packet means for a loudspeaker (for document 02, E10), as sentences (theorem:
-- proofs/Theorems.antt).
--
-- To be believed besides: of `refusals` 12, 13, 15, 16 and 17; of `times` the ages and `settings_delay`; of `register`
-- `BadOpening`, `Line` and `Means`, and document 01's lateness of three times, `times_lateness`, with `delay_between` and
-- `lateness`; of `playout` what OnTarget names, with its `BadStep` and `Outside`. Nothing of TargetLateness:
-- `number_answered` and `late_answered` of `lateness_asked` stand for the number and the lateness that
-- `target_lateness` answers. Of `prunepocket_target_lateness` prunepocket says the same (LoudspeakerPromise).
use Rattle.std.specs.Prelude.{ℕ, ◌*◌, ◌^◌, ◌<◌, List, [], ◌∷◌, ◌⊎◌, ◌≡◌, ℤ, pos}
use Rattle.refusals.specs.Refusals.{bad_opening, other_stream, received_far, rtp_aged, badly_presented}
use Rattle.idms.specs.declared.Settings.{Settings}
use Rattle.times.specs.Times.{ntp_age, rtp_age, settings_delay}
use Rattle.register.specs.declared.Reading.{Reading}
use Rattle.register.specs.declared.Opening.{Opening}
use Rattle.register.specs.Choosing.{times_lateness}
use Rattle.register.specs.Letter.{Line, Means, BadOpening}
use Rattle.playout.specs.declared.PlayoutClock.{PlayoutClock}
use Rattle.playout.specs.PlayoutClock.{ClockCall, clock_answer}
use Rattle.playout.specs.OnTarget.{BadStep, Outside}
use Rattle.settings_target.specs.TargetLateness.{lateness_asked, number_answered, late_answered}

-- 17: presented is not 0, and the packet's delay, presented minus received modulo 2^64, is over 30 s or is 0
abbrev pub TargetBadlyPresented : Settings → Type 0
TargetBadlyPresented s =
    (s.presented ≡ 0 → ⊥)
    × ((30 * 2 ^ 32 < settings_delay s.received s.presented) ⊎ (settings_delay s.received s.presented ≡ 0))

-- the lines that a packet meets at a loudspeaker, in their order. The numbers are the papers'; that these are tried here,
-- and 17 without presented 0, was decided (docs/DECISIONS.md).
abbrev pub target_lines : Opening → Settings → Reading → List Line
target_lines o s at =
    record { number = bad_opening; Applies = BadOpening o }
    ∷ record { number = other_stream; Applies = (s.group ≡ o.group) × (s.media ≡ o.media) → ⊥ }
    ∷ record { number = received_far; Applies = 30 * 2 ^ 32 < ntp_age at.ntp s.received }
    ∷ record { number = rtp_aged; Applies = 60 * o.rate < rtp_age at.rtp s.rtp }
    ∷ record { number = badly_presented; Applies = TargetBadlyPresented s }
    ∷ []

-- of a number and a lateness that are answered
pub record TargetMeans (o : Opening) (s : Settings) (at : Reading) (number : ℕ) (late : ℤ) : Type 0 where
  -- each number is given exactly where its line applies and none before it does
  pub refusals : Means (target_lines o s at) number
  -- accepted, the lateness is document 01's; refused, it is 0
  pub accepted : number ≡ 0 → late ≡ times_lateness o at s.received s.rtp s.presented
  pub refused : (number ≡ 0 → ⊥) → late ≡ pos 0
  -- accepted, it lies within plus or minus 2^57, so a set of it is refused only for the clock's own step or current
  pub in_range : number ≡ 0 → Outside late → ⊥
  pub settable :
      number ≡ 0 → (c : PlayoutClock) → (BadStep c.step → ⊥) → (Outside c.current → ⊥) →
      clock_answer c (ClockCall.set late) ≡ 0

abbrev pub EveryTarget : Type 0
EveryTarget =
    (o : Opening) (s : Settings) (at : Reading) →
    TargetMeans o s at (number_answered (lateness_asked o s at)) (late_answered (lateness_asked o s at))
