-- A value within the range, as its distance from the least: every law of a tick is then one of natural numbers.
use Prim.Native.Nat.{ℕ, zero, suc, ◌+◌, ◌-◌, ◌^◌, ◌≤◌, ◌<◌}
use mathlib.Core.Bool.{Bool, true, false, not, cond, ◌||◌}
use mathlib.Core.Path.{◌≡◌, refl, sym, ap, subst, ◌∙◌}
use lib.Dec.{leb, ltb}
use lib.IntN.{ℤ, pos, negsuc, neg_ℤ, nat_abs, sub_ℕ, ◌+ℤ◌, ◌-ℤ◌, +ℤ_comm, +ℤ-neg_ℤ_cancel, neg_ℤ-+ℤ, neg_ℤ-neg_ℤ}
use lib.Signed.{le_z, lt_z, mag}
use native.Mathlib.Omega.{arith}
use borrow.Author.Tests.{ltb-false, leb-true, leb-false, le-ltb, le-leb, lt-leb}
use mir.Syntax.{w64}
use mir.Val.{SFits}
use Rattle.integers.proofs.Laws.{leb-same, lt_z_not_le_z, sub_ℕ_below, sub_ℕ_above, le_z-sub_ℕ, sub_ℕ-add}
use Rattle.playout.specs.declared.PlayoutClock.{PlayoutClock}
use Rattle.refusals.specs.declared.RefusalNumber.TheVariants.{BadStep, OutsideRange}
use Rattle.refusals.specs.Refusals.{IsRefused, answer_number}
use Rattle.playout.specs.PlayoutClock.{ClockCall, is_bad_step, is_outside, clock_checks, clock_answer, lesser, towards}

abbrev pub at : ℕ → ℤ
at n = sub_ℕ n (2 ^ 57)

-- ---- from the range

or_false : (s t : Bool) → (s || t) ≡ false → (s ≡ false) × (t ≡ false)
or_false true t e = (e, absurd (subst (λ (b : Bool). cond b Unit ⊥) e tt))
or_false false t e = (refl, e)

abbrev pub offset : ℤ → ℕ
offset (pos n) = 2 ^ 57 + n
offset (negsuc n) = 2 ^ 57 - suc n

pub offset_at : (z : ℤ) → is_outside z ≡ false → (z ≡ at (offset z)) × (offset z ≤ 2 ^ 58)
offset_at (pos n) e =
    let most : n ≤ 2 ^ 57 = ltb-false (2 ^ 57) n e in
    (sym (sub_ℕ_above (2 ^ 57 + n) (2 ^ 57) n refl), omega arith)
offset_at (negsuc n) e =
    let most : n ≤ 2 ^ 57 - 1 = ltb-false (2 ^ 57 - 1) n (or_false (ltb (2 ^ 57 - 1) n) false e).0 in
    (sym (sub_ℕ_below (2 ^ 57 - suc n) (2 ^ 57) n (omega arith)), omega arith)

pub stepped : (z : ℤ) → is_bad_step z ≡ false → (s : ℕ) × (z ≡ pos s) × (0 < s) × (s ≤ 2 ^ 57)
stepped (pos n) e =
    let both = or_false (ltb n 1) (ltb (2 ^ 57) n) e in
    let more : 1 ≤ n = ltb-false n 1 both.0 in
    (n, refl, omega arith, ltb-false (2 ^ 57) n both.1)
stepped (negsuc n) e = absurd (subst (λ (b : Bool). cond b Unit ⊥) e tt)

-- ---- order, sums and differences

pub le_at : (a g : ℕ) → le_z (at a) (at g) ≡ leb a g
le_at a g =
    le_z-sub_ℕ a (2 ^ 57) g (2 ^ 57) ∙ leb-same (a + 2 ^ 57) (g + 2 ^ 57) a g (omega arith) (omega arith)

pub add_at : (a n : ℕ) → at a +ℤ pos n ≡ at (a + n)
add_at a n = sub_ℕ-add a (2 ^ 57) n

pub minus_at : (a g : ℕ) → a ≤ g → at g -ℤ at a ≡ pos (g - a)
minus_at a g h =
    let sum : a + (g - a) ≡ g = omega arith in
    ap (λ (z : ℤ). z -ℤ at a) (sym (ap at sum) ∙ sym (add_at a (g - a)) ∙ +ℤ_comm (at a) (pos (g - a)))
    ∙ +ℤ-neg_ℤ_cancel (pos (g - a)) (at a)

pub take_at : (a n : ℕ) → n ≤ a → at a -ℤ pos n ≡ at (a - n)
take_at a n h =
    let sum : a - n + n ≡ a = omega arith in
    ap (λ (z : ℤ). z -ℤ pos n) (sym (ap at sum) ∙ sym (add_at (a - n) n)) ∙ +ℤ-neg_ℤ_cancel (at (a - n)) (pos n)

-- ---- to the range

mag_at : (n : ℕ) → n ≤ 2 ^ 58 → mag (at n) < 2 ^ 63
mag_at n h = go (ltb n (2 ^ 57)) refl
  where
    go : (t : Bool) → ltb n (2 ^ 57) ≡ t → mag (at n) < 2 ^ 63
    go true e = rw e (omega arith)
    go false e = rw e (omega arith)

pub fits_at : (n : ℕ) → n ≤ 2 ^ 58 → SFits w64 (at n)
fits_at n h = record { sfits = mag_at n h }

pub inside : (n : ℕ) → n ≤ 2 ^ 58 → is_outside (at n) ≡ false
inside n h =
    let lower : lt_z (at n) (at 0) ≡ false = lt_z_not_le_z (at n) (at 0) ∙ ap not (le_at 0 n ∙ le-leb 0 n (omega arith)) in
    let upper : lt_z (at (2 ^ 58)) (at n) ≡ false =
    lt_z_not_le_z (at (2 ^ 58)) (at n) ∙ ap not (le_at n (2 ^ 58) ∙ le-leb n (2 ^ 58) h) in
    rw (lower, upper) refl

abbrev pub clock_at : ℕ → ℕ → ℕ → PlayoutClock
clock_at a g s = record { current = at a; target = at g; step = pos s }

-- ---- the checks in turn

pub number_step : (c : PlayoutClock) → is_bad_step c.step ≡ true → IsRefused (clock_checks c) BadStep 26
unfolding clock_checks
number_step c h = rw h (refl, refl)

pub number_current :
    (c : PlayoutClock) → is_bad_step c.step ≡ false → is_outside c.current ≡ true →
    IsRefused (clock_checks c) OutsideRange 27
unfolding clock_checks
number_current c h k = rw (h, k) (refl, refl)

pub number-target :
    (c : PlayoutClock) → is_bad_step c.step ≡ false → is_outside c.current ≡ false → is_outside c.target ≡ true →
    IsRefused (clock_checks c) OutsideRange 27
unfolding clock_checks
number-target c h k l = rw (h, k, l) (refl, refl)

-- ---- a record within the range

pub number_at : (a g s : ℕ) → a ≤ 2 ^ 58 → g ≤ 2 ^ 58 → 0 < s → s ≤ 2 ^ 57 →
    clock_answer (clock_at a g s) ClockCall.tick ≡ 0
unfolding clock_checks
number_at a g s ha hg hs hm =
    rw (le-ltb s 1 (omega (arith, hs)), le-ltb (2 ^ 57) s hm, inside a ha, inside g hg) refl

-- a record that no check refuses is one of these
pub record Taken (c : PlayoutClock) : Type 0 where
  pub a : ℕ
  pub g : ℕ
  pub s : ℕ
  pub is : c ≡ clock_at a g s
  pub a_most : a ≤ 2 ^ 58
  pub g_most : g ≤ 2 ^ 58
  pub s_least : 0 < s
  pub s_most : s ≤ 2 ^ 57

clash : {n : ℕ} (m : ℕ) → n ≡ suc m → n ≡ 0 → ⊥
clash m h e = omega arith

pub taken : (c : PlayoutClock) → clock_answer c ClockCall.tick ≡ 0 → Taken c
taken c e = go (is_bad_step c.step) refl (is_outside c.current) refl (is_outside c.target) refl
  where
    go :
        (p : Bool) → is_bad_step c.step ≡ p → (q : Bool) → is_outside c.current ≡ q →
        (r : Bool) → is_outside c.target ≡ r → Taken c
    go true h q k r l = absurd (clash 25 (ap answer_number (number_step c h).0) e)
    go false h true k r l = absurd (clash 26 (ap answer_number (number_current c h k).0) e)
    go false h false k true l = absurd (clash 26 (ap answer_number (number-target c h k l).0) e)
    go false h false k false l =
        let x = offset_at c.current k in
        let y = offset_at c.target l in
        let z = stepped c.step h in
        record {
          a = offset c.current;
          g = offset c.target;
          s = z.0;
          is = λ i. record { current = x.0 i; target = y.0 i; step = z.1 i };
          a_most = x.1;
          g_most = y.1;
          s_least = z.2;
          s_most = z.3;
        }

-- ---- a tick on naturals

abbrev pub lesser_of : ℕ → ℕ → ℕ
lesser_of s d = cond (leb s d) s d

lesser-pos : (s d : ℕ) → lesser (pos s) (pos d) ≡ pos (lesser_of s d)
lesser-pos s d = go (leb s d) refl
  where
    go : (t : Bool) → leb s d ≡ t → lesser (pos s) (pos d) ≡ pos (lesser_of s d)
    go true e = rw e refl
    go false e = rw e refl

pub lesser_most : (s d : ℕ) → lesser_of s d ≤ d
lesser_most s d = go (leb s d) refl
  where
    go : (t : Bool) → leb s d ≡ t → lesser_of s d ≤ d
    go true e = rw e (leb-true s d e)
    go false e = rw e (omega arith)

pub lesser-rest : (s d : ℕ) → d - lesser_of s d ≡ d - s
lesser-rest s d = go (leb s d) refl
  where
    go : (t : Bool) → leb s d ≡ t → d - lesser_of s d ≡ d - s
    go true e = rw e refl
    go false e = let h : d < s = leb-false s d e in rw e (omega arith)

pub towards_up : (a g s : ℕ) → a ≤ g → towards (at a) (at g) (pos s) ≡ at (a + lesser_of s (g - a))
unfolding towards
towards_up a g s h =
    rw (le_at a g ∙ le-leb a g h, minus_at a g h, lesser-pos s (g - a)) (add_at a (lesser_of s (g - a)))

pub towards_down : (a g s : ℕ) → g < a → towards (at a) (at g) (pos s) ≡ at (a - lesser_of s (a - g))
unfolding towards
towards_down a g s h =
    let m : lesser_of s (a - g) ≤ a - g = lesser_most s (a - g) in
    rw (le_at a g ∙ lt-leb a g h, minus_at g a (omega arith), lesser-pos s (a - g))
    (take_at a (lesser_of s (a - g)) (omega (arith, m)))

abbrev pub next_of : ℕ → ℕ → ℕ → ℕ
next_of a g s = cond (leb a g) (a + lesser_of s (g - a)) (a - lesser_of s (a - g))

pub towards-at : (a g s : ℕ) → towards (at a) (at g) (pos s) ≡ at (next_of a g s)
towards-at a g s = go (leb a g) refl
  where
    go : (t : Bool) → leb a g ≡ t → towards (at a) (at g) (pos s) ≡ at (next_of a g s)
    go true e = rw e (towards_up a g s (leb-true a g e))
    go false e = rw e (towards_down a g s (leb-false a g e))

-- what is left, on naturals
abbrev pub gap : ℕ → ℕ → ℕ
gap a g = g - a + (a - g)

pub next_most : (a g s : ℕ) → a ≤ 2 ^ 58 → g ≤ 2 ^ 58 → next_of a g s ≤ 2 ^ 58
next_most a g s ha hg = go (leb a g) refl
  where
    go : (t : Bool) → leb a g ≡ t → next_of a g s ≤ 2 ^ 58
    go true e = rw e (omega (arith, leb-true a g e, lesser_most s (g - a)))
    go false e = rw e (omega (arith, leb-false a g e, lesser_most s (a - g)))

gap_over : (g d : ℕ) → gap (g + d) g ≡ d
gap_over g d = omega arith

gap_under : (a d : ℕ) → gap a (a + d) ≡ d
gap_under a d = omega arith

pub next_gap : (a g s : ℕ) → gap (next_of a g s) g ≡ gap a g - s
next_gap a g s = go (leb a g) refl
  where
    go : (t : Bool) → leb a g ≡ t → gap (next_of a g s) g ≡ gap a g - s
    go true e =
        let d : ℕ = g - a in
        let h : a ≤ g = leb-true a g e in
        let m : lesser_of s d ≤ d = lesser_most s d in
        let now : a + d ≡ g = omega arith in
        let then : a + lesser_of s d + (d - lesser_of s d) ≡ g = omega arith in
        rw e
        (ap (gap (a + lesser_of s d)) (sym then) ∙ gap_under (a + lesser_of s d) (d - lesser_of s d) ∙ lesser-rest s d
        ∙ sym (ap (λ (n : ℕ). n - s) (ap (gap a) (sym now) ∙ gap_under a d)))
    go false e =
        let d : ℕ = a - g in
        let h : g < a = leb-false a g e in
        let m : lesser_of s d ≤ d = lesser_most s d in
        let now : a ≡ g + d = omega arith in
        let then : a - lesser_of s d ≡ g + (d - lesser_of s d) = omega arith in
        rw e
        (ap (λ (n : ℕ). gap n g) then ∙ gap_over g (d - lesser_of s d) ∙ lesser-rest s d
        ∙ sym (ap (λ (n : ℕ). n - s) (ap (λ (n : ℕ). gap n g) now ∙ gap_over g d)))

-- a tick leads from a no farther than to g
pub next_up : (a g s : ℕ) → a ≤ g → (a ≤ next_of a g s) × (next_of a g s ≤ g)
next_up a g s h =
    let m : lesser_of s (g - a) ≤ g - a = lesser_most s (g - a) in
    rw (le-leb a g h) (omega arith, omega (arith, m))

pub next_down : (a g s : ℕ) → g ≤ a → (g ≤ next_of a g s) × (next_of a g s ≤ a)
next_down a g s h = go (leb a g) refl
  where
    go : (t : Bool) → leb a g ≡ t → (g ≤ next_of a g s) × (next_of a g s ≤ a)
    go true e =
        let m : lesser_of s (g - a) ≤ g - a = lesser_most s (g - a) in
        let n : a ≤ g = leb-true a g e in
        rw e (omega (arith, m, n), omega (arith, m, n))
    go false e =
        let m : lesser_of s (a - g) ≤ a - g = lesser_most s (a - g) in
        rw e (omega (arith, m), omega arith)

-- ---- how far apart two values are

minus_swap : (x y : ℤ) → y -ℤ x ≡ neg_ℤ (x -ℤ y)
minus_swap x y = sym (neg_ℤ-+ℤ x (neg_ℤ y) ∙ ap (λ (z : ℤ). neg_ℤ x +ℤ z) (neg_ℤ-neg_ℤ y) ∙ +ℤ_comm (neg_ℤ x) y)

nat_abs_neg : (n : ℕ) → nat_abs (neg_ℤ (pos n)) ≡ n
nat_abs_neg zero = refl
nat_abs_neg (suc n) = refl

pub gap_at : (a g : ℕ) → nat_abs (at g -ℤ at a) ≡ gap a g
gap_at a g = go (leb a g) refl
  where
    go : (t : Bool) → leb a g ≡ t → nat_abs (at g -ℤ at a) ≡ gap a g
    go true e =
        let h : a ≤ g = leb-true a g e in
        ap nat_abs (minus_at a g h) ∙ omega arith
    go false e =
        let h : g < a = leb-false a g e in
        ap nat_abs (minus_swap (at a) (at g) ∙ ap neg_ℤ (minus_at g a (omega arith)))
        ∙ nat_abs_neg (a - g)
        ∙ omega arith

pub at_same : (a g : ℕ) → at a ≡ at g → a ≡ g
at_same a g e =
    let none : gap a g ≡ gap g g = sym (gap_at a g) ∙ ap (λ (z : ℤ). nat_abs (at g -ℤ z)) e ∙ gap_at g g in
    omega (arith, none)

-- ---- a tick's numbers fit

pub towards_yes : (c t s : ℤ) → le_z c t ≡ true → towards c t s ≡ c +ℤ lesser s (t -ℤ c)
unfolding towards
towards_yes c t s e = rw e refl

pub towards_no : (c t s : ℤ) → le_z c t ≡ false → towards c t s ≡ c -ℤ lesser s (c -ℤ t)
unfolding towards
towards_no c t s e = rw e refl

pub fits_towards : (c : PlayoutClock) → clock_answer c ClockCall.tick ≡ 0 → SFits w64 (towards c.current c.target c.step)
fits_towards c e =
    let k = taken c e in
    subst (λ (d : PlayoutClock). SFits w64 (towards d.current d.target d.step)) (sym k.is)
    (subst (SFits w64) (sym (towards-at k.a k.g k.s)) (fits_at (next_of k.a k.g k.s) (next_most k.a k.g k.s k.a_most k.g_most)))

pub fits_lesser : (a b : ℤ) → SFits w64 a → SFits w64 b → SFits w64 (lesser a b)
fits_lesser a b f g = go (le_z a b) refl
  where
    go : (t : Bool) → le_z a b ≡ t → SFits w64 (lesser a b)
    go true e = rw e f
    go false e = rw e g

fits_pos : (n : ℕ) → n ≤ 2 ^ 58 → SFits w64 (pos n)
fits_pos n h = record { sfits = omega arith }

pub fits_up : (c : PlayoutClock) → clock_answer c ClockCall.tick ≡ 0 → le_z c.current c.target ≡ true → SFits w64 (c.target -ℤ c.current)
fits_up c e l =
    let k = taken c e in
    let h : k.a ≤ k.g =
    leb-true k.a k.g (sym (le_at k.a k.g) ∙ subst (λ (d : PlayoutClock). le_z d.current d.target ≡ true) k.is l) in
    subst (λ (d : PlayoutClock). SFits w64 (d.target -ℤ d.current)) (sym k.is)
    (subst (SFits w64) (sym (minus_at k.a k.g h)) (fits_pos (k.g - k.a) (omega (arith, k.g_most))))

pub fits_down : (c : PlayoutClock) → clock_answer c ClockCall.tick ≡ 0 → le_z c.current c.target ≡ false → SFits w64 (c.current -ℤ c.target)
fits_down c e l =
    let k = taken c e in
    let h : k.g < k.a =
    leb-false k.a k.g (sym (le_at k.a k.g) ∙ subst (λ (d : PlayoutClock). le_z d.current d.target ≡ false) k.is l) in
    subst (λ (d : PlayoutClock). SFits w64 (d.current -ℤ d.target)) (sym k.is)
    (subst (SFits w64) (sym (minus_at k.g k.a (omega arith))) (fits_pos (k.a - k.g) (omega (arith, k.a_most))))

pub fits_clock :
    (c : PlayoutClock) → clock_answer c ClockCall.tick ≡ 0 →
    SFits w64 c.current × SFits w64 c.target × SFits w64 c.step
fits_clock c e =
    let k = taken c e in
    subst (λ (d : PlayoutClock). SFits w64 d.current × SFits w64 d.target × SFits w64 d.step) (sym k.is)
    (fits_at k.a k.a_most, fits_at k.g k.g_most, fits_pos k.s (omega (arith, k.s_most)))
