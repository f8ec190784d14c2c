-- What the answer to a settings packet means for a loudspeaker.
use mathlib.Core.Bool.{false, false≢true}
use mathlib.Core.List.{[], ◌∷◌}
use mathlib.Core.Logic.{◌⊎◌, inl, inr}
use mathlib.Core.Path.{◌≡◌, refl, sym, ap, ◌∙◌}
use lib.IntN.{ℤ}
use Rattle.idms.specs.declared.Settings.{Settings}
use Rattle.times.specs.Times.{is_far, is_aged}
use Rattle.register.specs.declared.Reading.{Reading}
use Rattle.refusals.specs.Refusals.{answer_number}
use Rattle.refusals.proofs.Laws.{answer_none, number_first}
use Rattle.register.specs.declared.Opening.{Opening}
use Rattle.register.specs.Register.{is_refused_opening, is_other_stream}
use Rattle.register.specs.Choosing.{times_lateness}
use Rattle.register.specs.Letter.{NoneOf, MeansBehind, Means}
use Rattle.register.proofs.Letter.Lines.{Tells, tells_equal, tells_less, tells_not, tells_and, tells_or, first_means}
use Rattle.register.proofs.Letter.Tests.{tells_bad_opening}
use Rattle.playout.specs.PlayoutClock.{ClockCall, is_outside}
use Rattle.playout.specs.OnTarget.{Outside}
use Rattle.playout.proofs.Theorems.{outside_test, every_clock_call}
use Rattle.settings_target.specs.TargetLateness.{target_is_badly_presented, target_checks, lateness_asked, late_answered}
use Rattle.settings_target.specs.TargetPromise.{TargetBadlyPresented, target_lines, TargetMeans, EveryTarget}
use Rattle.settings_target.proofs.Laws.{passed-target, lateness_inside, number_by, late-accepted, late-refused}

-- where presented is not 0, the check of settings asks for no more than the delay
tells_badly_presented :
    (s : Settings) → Tells (target_is_badly_presented s.received s.presented) (TargetBadlyPresented s)
tells_badly_presented s =
    let tells =
    tells_and _ _ (tells_not _ (tells_equal s.presented 0))
    (tells_or _ _ (tells_or _ _ (tells_less _ _) (tells_equal s.presented 0)) (tells_equal _ 0)) in (
      (λ e. let both = tells.0 e in (both.0, without both.0 both.1)),
      λ both. tells.1 (both.0, with_empty both.1),
    )
  where
    without : {P Q R : Type 0} → (Q → ⊥) → (P ⊎ Q) ⊎ R → P ⊎ R
    without none (inl (inl p)) = inl p
    without none (inl (inr q)) = absurd (none q)
    without none (inr r) = inr r

    with_empty : {P Q R : Type 0} → P ⊎ R → (P ⊎ Q) ⊎ R
    with_empty (inl p) = inl (inl p)
    with_empty (inr r) = inr r

module _ (o : Opening) (s : Settings) (at : Reading) where
  target-refusals : Means (target_lines o s at) (answer_number (target_checks o s at))
  unfolding target_checks NoneOf MeansBehind
  target-refusals =
      simp number_first
      (first_means (target_lines o s at)
      (is_refused_opening o
      ∷ is_other_stream o s.group s.media
      ∷ is_far at.ntp s.received
      ∷ is_aged o.rate at.rtp s.rtp
      ∷ target_is_badly_presented s.received s.presented
      ∷ []) (
        tells_bad_opening o,
        (
          tells_not _ (tells_and _ _ (tells_equal s.group o.group) (tells_equal s.media o.media)),
          (tells_less _ _, (tells_less _ _, (tells_badly_presented s, tt))),
        ),
      )
      refl)

  abbrev asked : ℤ
  asked = times_lateness o at s.received s.rtp s.presented

  abbrev late : ℤ
  late = late_answered (lateness_asked o s at)

  inside : answer_number (target_checks o s at) ≡ 0 → is_outside late ≡ false
  inside e =
      let p = passed-target o s at (answer_none (target_checks o s at) e) in
      ap is_outside (late-accepted (target_checks o s at) asked e)
      ∙ lateness_inside o.rate _ _ _ p.rate p.short p.near p.recent

  in_range : answer_number (target_checks o s at) ≡ 0 → Outside late → ⊥
  in_range e out = false≢true (sym (inside e) ∙ (outside_test late).1 out)

  -- of the checks' number, which is the number that is answered
  means_by : TargetMeans o s at (answer_number (target_checks o s at)) late
  means_by =
      record {
        refusals = target-refusals;
        accepted = late-accepted (target_checks o s at) asked;
        refused = late-refused (target_checks o s at) asked;
        in_range = in_range;
        settable = λ e c step current.
            (every_clock_call c (ClockCall.set late)).accepted.1 (step, neither current (in_range e));
      }
    where
      neither : {P Q : Type 0} → (P → ⊥) → (Q → ⊥) → P ⊎ Q → ⊥
      neither p q (inl h) = p h
      neither p q (inr h) = q h

pub every_target : EveryTarget
every_target o s at = rw (number_by (target_checks o s at) (asked o s at)) (means_by o s at)
