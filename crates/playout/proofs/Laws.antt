-- What a call leaves in a record, and signed numbers as the code reads them.
use mathlib.Core.Bool.{Bool, true, false, not, cond}
use mathlib.Core.Path.{◌≡◌, refl, sym, ap, ◌∙◌}
use lib.Dec.{eqb}
use lib.IntN.{ℤ, ◌+ℤ◌, ◌-ℤ◌}
use lib.Signed.{le_z}
use mir.Facts.{to_z-of_z}
use mir.Syntax.{w64}
use mir.Val.{SFits, to_z, of_z}
use borrow.Author.Tests.{eq-eqb, ne_eqb}
use Rattle.std.specs.Int.{int_min}
use Rattle.integers.proofs.Laws.{lt_z_not_le_z}
use Rattle.playout.specs.declared.PlayoutClock.{PlayoutClock}
use Rattle.playout.specs.PlayoutClock.{ClockCall, clock_answer, clock_accepted, clock_after, lesser}

-- ---- an accepted call, and a refused one

pub after-accepted :
    (c : PlayoutClock) (call : ClockCall) → clock_answer c call ≡ 0 → clock_after c call ≡ clock_accepted c call
unfolding clock_after
after-accepted c call e = rw (eq-eqb (clock_answer c call) 0 e) refl

pub after-refused :
    (c : PlayoutClock) (call : ClockCall) → (clock_answer c call ≡ 0 → ⊥) → clock_after c call ≡ c
unfolding clock_after
after-refused c call e = rw (ne_eqb (clock_answer c call) 0 e) refl

-- a tick writes current alone, a set target alone
pub tick_record :
    (c : PlayoutClock) →
    record { current = (clock_after c ClockCall.tick).current; target = c.target; step = c.step }
    ≡ clock_after c ClockCall.tick
unfolding clock_after
tick_record c = go (eqb (clock_answer c ClockCall.tick) 0) refl
  where
    go :
        (t : Bool) → eqb (clock_answer c ClockCall.tick) 0 ≡ t →
        record { current = (clock_after c ClockCall.tick).current; target = c.target; step = c.step }
        ≡ clock_after c ClockCall.tick
    go true e = rw e refl
    go false e = rw e refl

pub set_record :
    (c : PlayoutClock) (target : ℤ) →
    record { current = c.current; target = (clock_after c (ClockCall.set target)).target; step = c.step }
    ≡ clock_after c (ClockCall.set target)
unfolding clock_after
set_record c target = go (eqb (clock_answer c (ClockCall.set target)) 0) refl
  where
    go :
        (t : Bool) → eqb (clock_answer c (ClockCall.set target)) 0 ≡ t →
        record { current = c.current; target = (clock_after c (ClockCall.set target)).target; step = c.step }
        ≡ clock_after c (ClockCall.set target)
    go true e = rw e refl
    go false e = rw e refl

-- ---- a signed number, read back from its bits

abbrev pub norm : ℤ → ℤ
norm z = to_z w64 (of_z w64 z)

pub read : {z : ℤ} → SFits w64 z → norm z ≡ z
read fits = to_z-of_z {w = w64} fits

pub again : {x z : ℤ} → x ≡ z → SFits w64 z → norm x ≡ z
again e fits = ap norm e ∙ read fits

pub le_read : {z y : ℤ} {t : Bool} → SFits w64 z → SFits w64 y → le_z (norm z) (norm y) ≡ t → le_z z y ≡ t
le_read {z} {y} f g e =
    sym (ap (λ (x : ℤ). le_z x (norm y)) (read f) ∙ ap (λ (x : ℤ). le_z z x) (read g)) ∙ e

pub minus_read : {z y : ℤ} → SFits w64 z → SFits w64 y → norm z -ℤ norm y ≡ z -ℤ y
minus_read {z} {y} f g = ap (λ (x : ℤ). x -ℤ norm y) (read f) ∙ ap (λ (x : ℤ). z -ℤ x) (read g)

pub plus_read : {z y : ℤ} → SFits w64 z → SFits w64 y → norm z +ℤ norm y ≡ z +ℤ y
plus_read {z} {y} f g = ap (λ (x : ℤ). x +ℤ norm y) (read f) ∙ ap (λ (x : ℤ). z +ℤ x) (read g)

-- std's lesser of two is the definition's
pub min-lesser : (a b : ℤ) → int_min a b ≡ lesser a b
min-lesser a b = rw (lt_z_not_le_z b a) (go (le_z a b))
  where
    go : (t : Bool) → cond (not t) b a ≡ cond t a b
    go true = refl
    go false = refl
