-- A record that is lent to a call of crate prunepocket: the field that the call answers is written back, or none is.
use mathlib.Core.Path.{◌≡◌, refl, sym, ap, subst, ◌∙◌}
use lib.IntN.{ℤ}
use mir.Syntax.{w64}
use mir.Val.{SFits}
use Rattle.std.specs.Prelude.{Result, Ok, Err}
use Rattle.std.specs.Result.{result_and}
use Rattle.refusals.specs.declared.RefusalNumber.{RefusalNumber}
use Rattle.refusals.specs.Refusals.{refusal_number, answer_number}
use Rattle.refusals.proofs.Laws.{number_positive}
use Rattle.playout.specs.declared.PlayoutClock.{PlayoutClock}
use Rattle.playout.specs.PlayoutClock.{ClockCall, clock_checks, with_target, clock_answer, clock_after, ticked, target_set}
use Rattle.playout.proofs.Laws.{norm, again, after-accepted, after-refused, tick_record, set_record}
use Rattle.playout.proofs.Range.{fits_towards, fits_clock}

and-ok : (r : Result Unit RefusalNumber) (x z : ℤ) → Ok z ≡ result_and r (Ok x) → (r ≡ Ok tt) × (z ≡ x)
and-ok (Ok passed) x z e = (refl, cc)
and-ok (Err refused) x z e = absurd (cc)

and-err : (r : Result Unit RefusalNumber) (x : ℤ) (n : RefusalNumber) → Err n ≡ result_and r (Ok x) → r ≡ Err n
and-err (Ok passed) x n e = absurd (cc)
and-err (Err refused) x n e = let same : refused ≡ n = cc in ap Err same

module _ (c : PlayoutClock) where
  pub tick-accepted :
      (z : ℤ) → Ok z ≡ ticked c →
      (0 ≡ clock_answer c ClockCall.tick)
      × (record { current = norm z; target = c.target; step = c.step } ≡ clock_after c ClockCall.tick)
  tick-accepted z e =
      let both = and-ok (clock_checks c) (clock_after c ClockCall.tick).current z e in
      let none : clock_answer c ClockCall.tick ≡ 0 = ap answer_number both.0 in
      let fits : SFits w64 (clock_after c ClockCall.tick).current =
      subst (SFits w64) (sym (ap (λ (d : PlayoutClock). d.current) (after-accepted c ClockCall.tick none))) (fits_towards c none) in
      (sym none, (λ i. record { current = again both.1 fits i; target = c.target; step = c.step }) ∙ tick_record c)

  pub tick-refused :
      (n : RefusalNumber) → Err n ≡ ticked c →
      (refusal_number n ≡ clock_answer c ClockCall.tick) × (c ≡ clock_after c ClockCall.tick)
  tick-refused n e =
      let number : refusal_number n ≡ clock_answer c ClockCall.tick =
      sym (ap answer_number (and-err (clock_checks c) (clock_after c ClockCall.tick).current n e)) in
      (number, sym (after-refused c ClockCall.tick (λ none. number_positive n (number ∙ none))))

  pub set-accepted :
      (t z : ℤ) → Ok z ≡ target_set c t →
      (0 ≡ clock_answer c (ClockCall.set t))
      × (record { current = c.current; target = norm z; step = c.step } ≡ clock_after c (ClockCall.set t))
  set-accepted t z e =
      let both = and-ok (clock_checks (with_target c t)) (clock_after c (ClockCall.set t)).target z e in
      let none : clock_answer c (ClockCall.set t) ≡ 0 = ap answer_number both.0 in
      let fits : SFits w64 (clock_after c (ClockCall.set t)).target =
      subst (SFits w64) (sym (ap (λ (d : PlayoutClock). d.target) (after-accepted c (ClockCall.set t) none)))
      (fits_clock (with_target c t) none).1 in
      (sym none, (λ i. record { current = c.current; target = again both.1 fits i; step = c.step }) ∙ set_record c t)

  pub set-refused :
      (t : ℤ) (n : RefusalNumber) → Err n ≡ target_set c t →
      (refusal_number n ≡ clock_answer c (ClockCall.set t)) × (c ≡ clock_after c (ClockCall.set t))
  set-refused t n e =
      let number : refusal_number n ≡ clock_answer c (ClockCall.set t) =
      sym (ap answer_number (and-err (clock_checks (with_target c t)) (clock_after c (ClockCall.set t)).target n e)) in
      (number, sym (after-refused c (ClockCall.set t) (λ none. number_positive n (number ∙ none))))
