-- Laws of lateness as a difference of naturals, and of `precedes`.
use Prim.Native.Nat.{ℕ, ◌+◌, ◌*◌, ◌^◌, ◌≤◌}
use mathlib.Core.Bool.{Bool, true, false, not, ◌&&◌, ◌||◌, and-eq-true_iff, true≢false, false≢true}
use mathlib.Core.List.{[], ◌∷◌}
use mathlib.Core.Path.{◌≡◌, refl, sym, ap, ◌∙◌}
use lib.Dec.{leb}
use lib.IntN.{ℤ, pos, sub_ℕ, ◌+ℤ◌}
use lib.Signed.{le_z, ◌≤ℤ◌, ≤ℤ_refl}
use native.Mathlib.Nat.{le_refl}
use native.Mathlib.Omega.{arith}
use borrow.Author.Tests.{leb-true, leb-false, le-leb}
use Rattle.integers.proofs.Laws.{lt_z_not_le_z, ≤ℤ-le_z, le_z-≤ℤ, ≤ℤ_trans, ≤ℤ_total, mul-sub_ℕ, sub_ℕ-add}
use Rattle.register.specs.declared.Record.{Record}
use Rattle.register.specs.Register.{Rows}
use Rattle.register.specs.Choosing.{lateness, precedes, precedes_all}

pub lateness-sub_ℕ :
    (rate delay ntp_age rtp_age : ℕ) →
    lateness rate delay ntp_age rtp_age ≡ sub_ℕ (rate * delay + rtp_age * 2 ^ 32) (rate * ntp_age)
unfolding lateness
lateness-sub_ℕ rate delay ntp_age rtp_age =
    ap (λ (z : ℤ). z +ℤ pos (rtp_age * 2 ^ 32)) (mul-sub_ℕ rate delay ntp_age)
    ∙ sub_ℕ-add (rate * delay) (rate * ntp_age) (rtp_age * 2 ^ 32)

-- ---- precedes

-- a number no higher, as a test and as what it tells
abbrev is_no_higher : Record → Record → Bool
is_no_higher a b = leb a.source b.source

abbrev NoHigher : Record → Record → Type 0
NoHigher a b = a.source ≤ b.source

no_higher : (a b : Record) → is_no_higher a b ≡ true → NoHigher a b
no_higher a b e = leb-true a.source b.source e

is_no_higher_lem : (a b : Record) → NoHigher a b → is_no_higher a b ≡ true
is_no_higher_lem a b h = le-leb a.source b.source h

lower : (a b : Record) → is_no_higher a b ≡ false → NoHigher b a
lower a b e = omega (arith, leb-false a.source b.source e)

precedes_tests :
    (late : Record → ℤ) (a b : Record) →
    precedes late a b ≡ (not (le_z (late a) (late b)) || (le_z (late b) (late a) && is_no_higher a b))
precedes_tests late a b =
    ap (λ (t : Bool). t || (le_z (late b) (late a) && is_no_higher a b)) (lt_z_not_le_z (late b) (late a))

-- at least as late, and as late only with a number no higher
pub precedes_true :
    (late : Record → ℤ) (a b : Record) → precedes late a b ≡ true →
    (late b ≤ℤ late a) × (late a ≤ℤ late b → NoHigher a b)
precedes_true late a b e = go (le_z (late a) (late b)) refl
  where
    go : (t : Bool) → le_z (late a) (late b) ≡ t → (late b ≤ℤ late a) × (late a ≤ℤ late b → NoHigher a b)
    go true p =
        let both : _ = rw p at (sym (precedes_tests late a b) ∙ e) in
        let q : _ = (and-eq-true_iff (le_z (late b) (late a)) (is_no_higher a b)).0 both in
        (le_z-≤ℤ q.0, λ h. no_higher a b q.1)
    go false p = (≤ℤ_total (late a) (late b) p, λ h. absurd (false≢true (sym p ∙ ≤ℤ-le_z h)))

pub true_precedes :
    (late : Record → ℤ) (a b : Record) → late b ≤ℤ late a → (late a ≤ℤ late b → NoHigher a b) →
    precedes late a b ≡ true
true_precedes late a b more low = precedes_tests late a b ∙ go (le_z (late a) (late b)) refl
  where
    go :
        (t : Bool) → le_z (late a) (late b) ≡ t →
        (not (le_z (late a) (late b)) || (le_z (late b) (late a) && is_no_higher a b)) ≡ true
    go true p = rw (p, ≤ℤ-le_z more) (is_no_higher_lem a b (low (le_z-≤ℤ p)))
    go false p = rw p refl

pub precedes_refl : (late : Record → ℤ) (a : Record) → precedes late a a ≡ true
precedes_refl late a = true_precedes late a a (≤ℤ_refl (late a)) (λ h. le_refl a.source)

pub precedes_trans :
    (late : Record → ℤ) (a b c : Record) → precedes late a b ≡ true → precedes late b c ≡ true →
    precedes late a c ≡ true
precedes_trans late a b c p q =
    let ab : _ = precedes_true late a b p in
    let bc : _ = precedes_true late b c q in
    true_precedes late a c (≤ℤ_trans bc.0 ab.0)
    (λ h. omega (arith, ab.1 (≤ℤ_trans h bc.0), bc.1 (≤ℤ_trans ab.0 h)))

pub precedes_total : (late : Record → ℤ) (a b : Record) → precedes late a b ≡ false → precedes late b a ≡ true
precedes_total late a b e =
    true_precedes late b a (as_late (le_z (late a) (late b)) refl) (λ more. low more (is_no_higher a b) refl)
  where
    as_late : (t : Bool) → le_z (late a) (late b) ≡ t → late a ≤ℤ late b
    as_late true p = le_z-≤ℤ p
    as_late false p = absurd (true≢false (rw p at (sym (precedes_tests late a b) ∙ e)))

    low : late b ≤ℤ late a → (t : Bool) → is_no_higher a b ≡ t → NoHigher b a
    low more true q = absurd (false≢true (sym e ∙ true_precedes late a b more (λ h. no_higher a b q)))
    low more false q = lower a b q

pub precedes_all_trans :
    (late : Record → ℤ) (a b : Record) (rows : Rows) → precedes late a b ≡ true → precedes_all late b rows ≡ true →
    precedes_all late a rows ≡ true
unfolding precedes_all
precedes_all_trans late a b [] e h = refl
precedes_all_trans late a b (row ∷ rows) e h =
    let both : _ = (and-eq-true_iff (precedes late b row) (precedes_all late b rows)).0 h in
    rw (precedes_trans late a b row e both.0, precedes_all_trans late a b rows e both.1) refl
