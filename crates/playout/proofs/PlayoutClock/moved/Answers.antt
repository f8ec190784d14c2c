-- Up or down, by the lesser of the step and what is left.
use mathlib.Core.Bool.{true, false}
use mathlib.Core.Path.{◌≡◌, sym, ap, subst, ◌∙◌}
use lib.IntN.{ℤ, ◌+ℤ◌, ◌-ℤ◌}
use lib.Signed.{le_z}
use mir.Syntax.{w64}
use mir.Val.{SFits}
use Rattle.std.specs.Int.{int_min}
use Rattle.playout.specs.declared.PlayoutClock.{PlayoutClock}
use Rattle.playout.specs.PlayoutClock.{ClockCall, clock_answer, lesser, towards}
use Rattle.playout.proofs.Laws.{norm, read, le_read, again, minus_read, plus_read, min-lesser}
use Rattle.playout.proofs.Range.{towards_yes, towards_no, fits_clock, fits_towards, fits_lesser, fits_up, fits_down}
use Rattle.playout.proofs.PlayoutClock.moved.Goals as goal

-- ---- either way, of a record that passed the checks

module _ (k : PlayoutClock) (zero : clock_answer k ClockCall.tick ≡ 0) where
  abbrev c : ℤ
  c = k.current

  abbrev t : ℤ
  t = k.target

  abbrev s : ℤ
  s = k.step

  fc : SFits w64 c
  fc = (fits_clock k zero).0

  ft : SFits w64 t
  ft = (fits_clock k zero).1

  fs : SFits w64 s
  fs = (fits_clock k zero).2

  module _ (said_up : le_z (norm c) (norm t) ≡ true) where
    up : le_z c t ≡ true
    up = le_read fc ft said_up

    up_left : SFits w64 (norm t -ℤ norm c)
    up_left = subst (SFits w64) (sym (minus_read ft fc)) (fits_up k zero up)

    module _ (l : ℤ) (said : l ≡ int_min (norm s) (norm (norm t -ℤ norm c))) where
      up_by : l ≡ lesser s (t -ℤ c)
      up_by =
          said ∙ min-lesser (norm s) (norm (norm t -ℤ norm c))
          ∙ ap (λ (x : ℤ). lesser x (norm (norm t -ℤ norm c))) (read fs)
          ∙ ap (lesser s) (again (minus_read ft fc) (fits_up k zero up))

      up_fits : SFits w64 l
      up_fits = subst (SFits w64) (sym up_by) (fits_lesser s (t -ℤ c) fs (fits_up k zero up))

      up-sum : norm c +ℤ norm l ≡ towards c t s
      up-sum = plus_read fc up_fits ∙ ap (λ (x : ℤ). c +ℤ x) up_by ∙ sym (towards_yes c t s up)

  module _ (said_down : le_z (norm c) (norm t) ≡ false) where
    down : le_z c t ≡ false
    down = le_read fc ft said_down

    down-left : SFits w64 (norm c -ℤ norm t)
    down-left = subst (SFits w64) (sym (minus_read fc ft)) (fits_down k zero down)

    module _ (l : ℤ) (said : l ≡ int_min (norm s) (norm (norm c -ℤ norm t))) where
      down_by : l ≡ lesser s (c -ℤ t)
      down_by =
          said ∙ min-lesser (norm s) (norm (norm c -ℤ norm t))
          ∙ ap (λ (x : ℤ). lesser x (norm (norm c -ℤ norm t))) (read fs)
          ∙ ap (lesser s) (again (minus_read fc ft) (fits_down k zero down))

      down_fits : SFits w64 l
      down_fits = subst (SFits w64) (sym down_by) (fits_lesser s (c -ℤ t) fs (fits_down k zero down))

      down-sum : norm c -ℤ norm l ≡ towards c t s
      down-sum = minus_read fc down_fits ∙ ap (λ (x : ℤ). c -ℤ x) down_by ∙ sym (towards_no c t s down)

  sum_fits : {z : ℤ} → z ≡ towards c t s → SFits w64 z
  sum_fits e = subst (SFits w64) (sym e) (fits_towards k zero)

  sum-read : {z : ℤ} → z ≡ towards c t s → norm z ≡ towards c t s
  sum-read e = again e (fits_towards k zero)

-- ---- the goals

pub overflow_sub-self : goal.overflow_sub-self
overflow_sub-self c = up_left c.args.self c.requires c.if-self.true

pub overflow_add-result : goal.overflow_add-result
overflow_add-result c =
    let k = c.args.self in
    sum_fits k c.requires (up-sum k c.requires c.if-self.true c.min.result c.min.ensures.value)

pub returns-then-self : goal.returns-then-self
returns-then-self c =
    let k = c.args.self in
    sum-read k c.requires (up-sum k c.requires c.if-self.true c.min.result c.min.ensures.value)

pub overflow_sub-self-else-self : goal.overflow_sub-self-else-self
overflow_sub-self-else-self c = down-left c.args.self c.requires c.if-self.false

pub overflow_sub-result : goal.overflow_sub-result
overflow_sub-result c =
    let k = c.args.self in
    sum_fits k c.requires (down-sum k c.requires c.if-self.false c.min-else-self.result c.min-else-self.ensures.value)

pub returns-else-self : goal.returns-else-self
returns-else-self c =
    let k = c.args.self in
    sum-read k c.requires (down-sum k c.requires c.if-self.false c.min-else-self.result c.min-else-self.ensures.value)
