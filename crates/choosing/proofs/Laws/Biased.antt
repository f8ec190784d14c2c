-- The biased number orders fresh rows as lateness does: it is lateness plus the same 30 s for each. So the latest row
-- by one is the latest by the other.
use Prim.Native.Nat.{ℕ, ◌+◌, ◌-◌, ◌*◌, ◌^◌, ◌≤◌}
use mathlib.Core.Bool.{Bool, true, false, not, cond, ◌&&◌, and-eq-true_iff}
use mathlib.Core.List.{[], ◌∷◌}
use mathlib.Core.Path.{◌≡◌, refl, sym, ap, ◌∙◌}
use lib.Dec.{leb}
use lib.IntN.{ℤ, pos, ◌+ℤ◌}
use lib.Signed.{le_z}
use native.Mathlib.Omega.{arith}
use borrow.Author.Tests.{not-true, ltb-false, leb-true, leb-false, le-leb, lt-leb}
use Rattle.places.specs.Places.{held_in}
use Rattle.times.specs.Times.{ntp_age, rtp_age, is_far, is_aged}
use Rattle.std.specs.Prelude.{Result}
use Rattle.refusals.specs.declared.RefusalNumber.{RefusalNumber}
use Rattle.register.specs.declared.Record.{Record}
use Rattle.register.specs.declared.Reading.{Reading}
use Rattle.register.specs.declared.Target.{Target}
use Rattle.register.specs.Register.{Rows, filter, presents, fresh_at}
use Rattle.register.specs.Choosing.{lateness, lateness_of, delay_of, precedes, target_of}
use Rattle.choosing.specs.Latest.{latest}
use Rattle.integers.proofs.Laws.{lt_z_not_le_z, le_z-sub_ℕ, sub_ℕ-add}
use Rattle.register.proofs.Order.{lateness-sub_ℕ}
use Rattle.register.proofs.Rows.{filter_yes, filter_no}
use Rattle.choosing.specs.Marked.{marked_at, filter_word}
use Rattle.choosing.specs.Choose.{at_rate, fresh_word, presenting_word, arrives, counted_word, latest_target, choice_in}
use Rattle.choosing.specs.Choose.{choice_among}
use Rattle.choosing.specs.Lateness.{biased, biased_late}
use Rattle.choosing.proofs.Laws.Marked.{marked_filter_word}
use Rattle.choosing.proofs.Laws.Latest.{latest-cons}

-- ---- the order of two numbers

leb_difference : (m n p q : ℕ) → m + q ≡ n + p → leb m n ≡ leb p q
leb_difference m n p q e = go (leb p q) refl
  where
    go : (t : Bool) → leb p q ≡ t → leb m n ≡ leb p q
    go true s = le-leb m n (omega (arith, leb-true p q s)) ∙ sym s
    go false s = lt-leb m n (omega (arith, leb-false p q s)) ∙ sym s

biased-sum :
    (rate delay age ticks : ℕ) → age ≤ 30 * 2 ^ 32 →
    biased rate delay age ticks + rate * age ≡ rate * delay + ticks * 2 ^ 32 + rate * (30 * 2 ^ 32)
unfolding biased
biased-sum rate delay age ticks h =
    let time : ℕ = delay + 30 * 2 ^ 32 - age in
    let sum : time + age ≡ delay + 30 * 2 ^ 32 = omega arith in
    let product : rate * (time + age) ≡ rate * (delay + 30 * 2 ^ 32) = ap (λ (n : ℕ). rate * n) sum in
    omega (arith, product)

pub le_z-lateness :
    (rate d a t d' a' t' : ℕ) → a ≤ 30 * 2 ^ 32 → a' ≤ 30 * 2 ^ 32 →
    le_z (lateness rate d a t) (lateness rate d' a' t') ≡ leb (biased rate d a t) (biased rate d' a' t')
le_z-lateness rate d a t d' a' t' h h' =
    rw (lateness-sub_ℕ rate d a t, lateness-sub_ℕ rate d' a' t')
    (le_z-sub_ℕ (rate * d + t * 2 ^ 32) (rate * a) (rate * d' + t' * 2 ^ 32) (rate * a')
    ∙ leb_difference (rate * d + t * 2 ^ 32 + rate * a') (rate * d' + t' * 2 ^ 32 + rate * a)
    (biased rate d a t)
    (biased rate d' a' t')
    (omega (arith, biased-sum rate d a t h, biased-sum rate d' a' t' h')))

-- the same where the second lateness has an allowance
pub le_z_allowed :
    (rate d a t d' a' t' allowed : ℕ) → a ≤ 30 * 2 ^ 32 → a' ≤ 30 * 2 ^ 32 →
    le_z (lateness rate d a t) (lateness rate d' a' t' +ℤ pos allowed)
    ≡ leb (biased rate d a t) (biased rate d' a' t' + allowed)
le_z_allowed rate d a t d' a' t' allowed h h' =
    rw (
      lateness-sub_ℕ rate d a t,
      lateness-sub_ℕ rate d' a' t',
      sub_ℕ-add (rate * d' + t' * 2 ^ 32) (rate * a') allowed,
    )
    (le_z-sub_ℕ (rate * d + t * 2 ^ 32) (rate * a) (rate * d' + t' * 2 ^ 32 + allowed) (rate * a')
    ∙ leb_difference (rate * d + t * 2 ^ 32 + rate * a') (rate * d' + t' * 2 ^ 32 + allowed + rate * a)
    (biased rate d a t)
    (biased rate d' a' t' + allowed)
    (omega (arith, biased-sum rate d a t h, biased-sum rate d' a' t' h')))

-- ---- the order of two fresh rows

pub fresh_age :
    (rate : ℕ) (at : Reading) (row : Record) → fresh_at (at_rate rate) at row ≡ true →
    ntp_age at.ntp row.report.received ≤ 30 * 2 ^ 32
fresh_age rate at row e =
    let far : Bool = is_far at.ntp row.report.received in
    let near : not far ≡ true =
    ((and-eq-true_iff (not far) (not (is_aged rate at.rtp row.report.rtp))).0 e).0 in
    ltb-false (30 * 2 ^ 32) (ntp_age at.ntp row.report.received) (not-true far near)

le_z-biased :
    (rate : ℕ) (at : Reading) (a b : Record) →
    fresh_at (at_rate rate) at a ≡ true → fresh_at (at_rate rate) at b ≡ true →
    le_z (lateness_of (at_rate rate) at a) (lateness_of (at_rate rate) at b)
    ≡ le_z (biased_late rate at a) (biased_late rate at b)
le_z-biased rate at a b p q =
    le_z-lateness rate (delay_of a) (ntp_age at.ntp a.report.received) (rtp_age at.rtp a.report.rtp)
    (delay_of b)
    (ntp_age at.ntp b.report.received)
    (rtp_age at.rtp b.report.rtp)
    (fresh_age rate at a p)
    (fresh_age rate at b q)

-- two measures of lateness order two rows alike
precedes-alike :
    (f g : Record → ℤ) (a b : Record) → le_z (f a) (f b) ≡ le_z (g a) (g b) → le_z (f b) (f a) ≡ le_z (g b) (g a) →
    precedes f a b ≡ precedes g a b
precedes-alike f g a b p q = rw (lt_z_not_le_z (f b) (f a), lt_z_not_le_z (g b) (g a), p, q) refl

-- ---- the latest row, among rows that pass a test

-- two measures of lateness order alike the rows that pass a test
abbrev Alike : (Record → Bool) → (f g : Record → ℤ) → Type 0
Alike test f g = (a b : Record) → test a ≡ true → test b ≡ true → precedes f a b ≡ precedes g a b

passes_either :
    (test : Record → Bool) (a b : Record) (t : Bool) → test a ≡ true → test b ≡ true → test (cond t a b) ≡ true
passes_either test a b true p q = p
passes_either test a b false p q = q

latest_alike_step :
    (test : Record → Bool) (f g : Record → ℤ) → Alike test f g → (a b : Record) (rows : Rows) → test a ≡ true →
    ((x : Record) → test x ≡ true → latest f x (filter test rows) ≡ latest g x (filter test rows)) →
    (t : Bool) → test b ≡ t → latest f a (filter test (b ∷ rows)) ≡ latest g a (filter test (b ∷ rows))
latest_alike_step test f g alike a b rows p same true q =
    let later : Bool = precedes g a b in
    rw (filter_yes test b rows q)
    (latest-cons f a b (filter test rows) later (alike a b p q)
    ∙ same (cond later a b) (passes_either test a b later p q)
    ∙ sym (latest-cons g a b (filter test rows) later refl))
latest_alike_step test f g alike a b rows p same false q = rw (filter_no test b rows q) (same a p)

latest-alike :
    (test : Record → Bool) (f g : Record → ℤ) → Alike test f g → (rows : Rows) (a : Record) → test a ≡ true →
    latest f a (filter test rows) ≡ latest g a (filter test rows)
unfolding latest filter
latest-alike test f g alike [] a p = refl
latest-alike test f g alike (b ∷ rows) a p =
    latest_alike_step test f g alike a b rows p (latest-alike test f g alike rows) (test b) refl

latest_target_alike_step :
    (test : Record → Bool) (f g : Record → ℤ) → Alike test f g → (n : ℕ) (row : Record) (rows : Rows) →
    latest_target f n (filter test rows) ≡ latest_target g n (filter test rows) →
    (t : Bool) → test row ≡ t →
    latest_target f n (filter test (row ∷ rows)) ≡ latest_target g n (filter test (row ∷ rows))
unfolding latest_target
latest_target_alike_step test f g alike n row rows same true p =
    rw (filter_yes test row rows p)
    (ap (λ (x : Record). target_of x n) (latest-alike test f g alike rows row p))
latest_target_alike_step test f g alike n row rows same false p = rw (filter_no test row rows p) same

latest_target-alike :
    (test : Record → Bool) (f g : Record → ℤ) → Alike test f g → (n : ℕ) (rows : Rows) →
    latest_target f n (filter test rows) ≡ latest_target g n (filter test rows)
unfolding latest_target filter
latest_target-alike test f g alike n [] = refl
latest_target-alike test f g alike n (row ∷ rows) =
    latest_target_alike_step test f g alike n row rows (latest_target-alike test f g alike n rows) (test row) refl

-- ---- choosing

-- among the members that a filtered word marks, where the test lets only fresh ones pass
latest_target-biased :
    (rate : ℕ) (at : Reading) (test : Record → Bool) (n word : ℕ) (ms : Rows) →
    ((row : Record) → test row ≡ true → fresh_at (at_rate rate) at row ≡ true) →
    latest_target (biased_late rate at) n (marked_at (filter_word test word ms) ms)
    ≡ latest_target (lateness_of (at_rate rate) at) n (marked_at (filter_word test word ms) ms)
latest_target-biased rate at test n word ms fresh =
    rw (marked_filter_word test word ms)
    (sym
    (latest_target-alike test (lateness_of (at_rate rate) at) (biased_late rate at)
    (λ a b p q.
    precedes-alike (lateness_of (at_rate rate) at) (biased_late rate at) a b
    (le_z-biased rate at a b (fresh a p) (fresh b q))
    (le_z-biased rate at b a (fresh b q) (fresh a p)))
    n
    (marked_at word ms)))

-- a choice of the code: the members counted are fresh in either mode
pub choice-counted :
    (rate : ℕ) (at : Reading) (held : ℕ) (ms : Rows) (word : ℕ) → word ≡ counted_word rate at held ms →
    (x : Result Target RefusalNumber) → x ≡ latest_target (biased_late rate at) (held_in 64 word) (marked_at word ms) →
    x ≡ choice_among rate at held ms
unfolding choice_among
choice-counted rate at held ms word w x e = e ∙ rw w (go (arrives rate at held ms) refl)
  where
    go :
        (b : Bool) → arrives rate at held ms ≡ b →
        latest_target (biased_late rate at) (held_in 64 (counted_word rate at held ms))
        (marked_at (counted_word rate at held ms) ms)
        ≡ choice_in rate at (counted_word rate at held ms) ms
    go true p =
        rw p
        (latest_target-biased rate at (fresh_at (at_rate rate) at) (held_in 64 (fresh_word rate at held ms)) held ms
        (λ row s. s))
    go false p =
        rw p
        (latest_target-biased rate at (λ m. fresh_at (at_rate rate) at m && presents m)
        (held_in 64 (presenting_word rate at held ms))
        held
        ms
        (λ row s. ((and-eq-true_iff (fresh_at (at_rate rate) at row) (presents row)).0 s).0))
