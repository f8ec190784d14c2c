-- Laws of ℤ: an integer is a difference of two naturals, and differences are ordered as sums of naturals are.
use Prim.Native.Nat.{ℕ, zero, suc, ◌+◌, ◌-◌, ◌*◌, ◌≤◌, ◌<◌}
use mathlib.Core.Bool.{Bool, true, false, not}
use mathlib.Core.Path.{◌≡◌, refl, sym, ap, subst, ◌∙◌}
use lib.Dec.{T, leb, ltb}
use lib.IntN.{ℤ, pos, negsuc, neg_ℤ, sub_ℕ, ◌+ℤ◌, ◌-ℤ◌, ◌*ℤ◌}
use lib.Signed.{le_z, lt_z, ◌≤ℤ◌, ◌<ℤ◌, le_z_yes, lt_z_yes}
use native.Mathlib.Omega.{arith}
use borrow.Author.Tests.{ltb-true, ltb-false, leb-true, leb-false, lt-ltb, le-ltb, le-leb, lt-leb}

-- ---- tests of order

pub leb-same : (m n p q : ℕ) → (m ≤ n → p ≤ q) → (n < m → q < p) → leb m n ≡ leb p q
leb-same m n p q below above = go (leb m n) refl
  where
    go : (t : Bool) → leb m n ≡ t → leb m n ≡ leb p q
    go true e = e ∙ sym (le-leb p q (below (leb-true m n e)))
    go false e = e ∙ sym (lt-leb p q (above (leb-false m n e)))

ltb_not_leb : (m n : ℕ) → ltb m n ≡ not (leb n m)
ltb_not_leb m n = go (leb n m) refl
  where
    go : (t : Bool) → leb n m ≡ t → ltb m n ≡ not (leb n m)
    go true e = rw e (le-ltb m n (leb-true n m e))
    go false e = rw e (lt-ltb m n (leb-false n m e))

pub lt_z_not_le_z : (a b : ℤ) → lt_z a b ≡ not (le_z b a)
lt_z_not_le_z (pos a) (pos b) = ltb_not_leb a b
lt_z_not_le_z (pos a) (negsuc b) = refl
lt_z_not_le_z (negsuc a) (pos b) = refl
lt_z_not_le_z (negsuc a) (negsuc b) = ltb_not_leb b a

T_true : (t : Bool) → T t → t ≡ true
T_true true h = refl
T_true false h = absurd h

-- the order and its test
pub ≤ℤ-le_z : {a b : ℤ} → a ≤ℤ b → le_z a b ≡ true
≤ℤ-le_z {a} {b} h = T_true (le_z a b) h.le

pub le_z-≤ℤ : {a b : ℤ} → le_z a b ≡ true → a ≤ℤ b
le_z-≤ℤ e = le_z_yes (subst T (sym e) tt)

pub <ℤ-lt_z : {a b : ℤ} → a <ℤ b → lt_z a b ≡ true
<ℤ-lt_z {a} {b} h = T_true (lt_z a b) h.lt

pub lt_z-<ℤ : {a b : ℤ} → lt_z a b ≡ true → a <ℤ b
lt_z-<ℤ e = lt_z_yes (subst T (sym e) tt)

-- ---- differences of naturals

pub sub_ℕ_below : (a b d : ℕ) → b ≡ a + suc d → sub_ℕ a b ≡ negsuc d
sub_ℕ_below a b d e =
    let less : a < b = omega arith in
    let left : b - suc a ≡ d = omega arith in
    rw (lt-ltb a b less, left) refl

pub sub_ℕ_above : (a b d : ℕ) → a ≡ b + d → sub_ℕ a b ≡ pos d
sub_ℕ_above a b d e =
    let most : b ≤ a = omega arith in
    let left : a - b ≡ d = omega arith in
    rw (le-ltb a b most, left) refl

-- a case for each sign
sub_ℕ_cases : (P : ℕ → ℕ → Type 0) → ((a d : ℕ) → P a (a + suc d)) → ((b d : ℕ) → P (b + d) b) → (a b : ℕ) → P a b
sub_ℕ_cases P below above a b = go (ltb a b) refl
  where
    go : (t : Bool) → ltb a b ≡ t → P a b
    go true e =
        let sum : a + suc (b - suc a) ≡ b = omega (arith, ltb-true a b e) in
        subst (λ (n : ℕ). P a n) sum (below a (b - suc a))
    go false e =
        let sum : b + (a - b) ≡ a = omega (arith, ltb-false a b e) in
        subst (λ (n : ℕ). P n b) sum (above b (a - b))

pub le_z-sub_ℕ : (a b c d : ℕ) → le_z (sub_ℕ a b) (sub_ℕ c d) ≡ leb (a + d) (c + b)
le_z-sub_ℕ a b c d = go (ltb a b) refl (ltb c d) refl
  where
    go : (s : Bool) → ltb a b ≡ s → (t : Bool) → ltb c d ≡ t → le_z (sub_ℕ a b) (sub_ℕ c d) ≡ leb (a + d) (c + b)
    go true p true q =
        let p' : _ = ltb-true a b p in
        let q' : _ = ltb-true c d q in
        rw (p, q) (leb-same (d - suc c) (b - suc a) (a + d) (c + b) (omega arith) (omega arith))
    go true p false q = rw (p, q) (sym (le-leb (a + d) (c + b) (omega (arith, ltb-true a b p, ltb-false c d q))))
    go false p true q = rw (p, q) (sym (lt-leb (a + d) (c + b) (omega (arith, ltb-false a b p, ltb-true c d q))))
    go false p false q =
        let p' : _ = ltb-false a b p in
        let q' : _ = ltb-false c d q in
        rw (p, q) (leb-same (a - b) (c - d) (a + d) (c + b) (omega arith) (omega arith))

sub_ℕ-same : (a b c d : ℕ) → a + d ≡ c + b → sub_ℕ a b ≡ sub_ℕ c d
sub_ℕ-same =
    sub_ℕ_cases (λ (a b : ℕ). (c d : ℕ) → a + d ≡ c + b → sub_ℕ a b ≡ sub_ℕ c d)
    (λ a x c d e. sub_ℕ_below a (a + suc x) x refl ∙ sym (sub_ℕ_below c d x (omega arith)))
    (λ b x c d e. sub_ℕ_above (b + x) b x refl ∙ sym (sub_ℕ_above c d x (omega arith)))

pub pos_minus : (a b : ℕ) → pos a -ℤ pos b ≡ sub_ℕ a b
pos_minus a zero = sym (sub_ℕ_above a 0 (a + 0) (omega arith))
pos_minus a (suc b) = refl

sub_ℕ-neg_ℤ : (a b d : ℕ) → b ≡ a + d → sub_ℕ a b ≡ neg_ℤ (pos d)
sub_ℕ-neg_ℤ a b zero e = sub_ℕ_above a b 0 (omega arith)
sub_ℕ-neg_ℤ a b (suc d) e = sub_ℕ_below a b d e

pub mul-sub_ℕ : (n a b : ℕ) → pos n *ℤ sub_ℕ a b ≡ sub_ℕ (n * a) (n * b)
mul-sub_ℕ n =
    sub_ℕ_cases (λ (a b : ℕ). pos n *ℤ sub_ℕ a b ≡ sub_ℕ (n * a) (n * b))
    (λ a x.
    rw (sub_ℕ_below a (a + suc x) x refl) (sym (sub_ℕ-neg_ℤ (n * a) (n * (a + suc x)) (n * suc x) (omega arith))))
    (λ b x. rw (sub_ℕ_above (b + x) b x refl) (sym (sub_ℕ_above (n * (b + x)) (n * b) (n * x) (omega arith))))

-- an integer as a difference: gain minus loss
abbrev gain : ℤ → ℕ
gain (pos n) = n
gain (negsuc n) = 0

abbrev loss : ℤ → ℕ
loss (pos n) = 0
loss (negsuc n) = suc n

sub_ℕ_gain_loss : (z : ℤ) → sub_ℕ (gain z) (loss z) ≡ z
sub_ℕ_gain_loss (pos n) = sub_ℕ_above n 0 n (omega arith)
sub_ℕ_gain_loss (negsuc n) = sub_ℕ_below 0 (suc n) n (omega arith)

sub_ℕ-sum : (z : ℤ) (a b : ℕ) → sub_ℕ a b +ℤ z ≡ sub_ℕ (a + gain z) (b + loss z)
sub_ℕ-sum (pos n) =
    sub_ℕ_cases (λ (a b : ℕ). sub_ℕ a b +ℤ pos n ≡ sub_ℕ (a + n) (b + 0))
    (λ a x. rw (sub_ℕ_below a (a + suc x) x refl) (sub_ℕ-same n (suc x) (a + n) (a + suc x + 0) (omega arith)))
    (λ b x. rw (sub_ℕ_above (b + x) b x refl) (sym (sub_ℕ_above (b + x + n) (b + 0) (x + n) (omega arith))))
sub_ℕ-sum (negsuc n) =
    sub_ℕ_cases (λ (a b : ℕ). sub_ℕ a b +ℤ negsuc n ≡ sub_ℕ (a + 0) (b + suc n))
    (λ a x.
    rw (sub_ℕ_below a (a + suc x) x refl)
    (sym (sub_ℕ_below (a + 0) (a + suc x + suc n) (suc (x + n)) (omega arith))))
    (λ b x. rw (sub_ℕ_above (b + x) b x refl) (sub_ℕ-same x (suc n) (b + x + 0) (b + suc n) (omega arith)))

pub sub_ℕ-add : (a b c : ℕ) → sub_ℕ a b +ℤ pos c ≡ sub_ℕ (a + c) b
sub_ℕ-add a b c = sub_ℕ-sum (pos c) a b ∙ sub_ℕ-same (a + c) (b + 0) (a + c) b (omega arith)

-- ---- the order on ℤ

le_z_sums : (a b : ℤ) → le_z a b ≡ leb (gain a + loss b) (gain b + loss a)
le_z_sums a b =
    sym (ap (λ (z : ℤ). le_z z b) (sub_ℕ_gain_loss a))
    ∙ sym (ap (λ (z : ℤ). le_z (sub_ℕ (gain a) (loss a)) z) (sub_ℕ_gain_loss b))
    ∙ le_z-sub_ℕ (gain a) (loss a) (gain b) (loss b)

≤ℤ_sums : {a b : ℤ} → a ≤ℤ b → gain a + loss b ≤ gain b + loss a
≤ℤ_sums {a} {b} h = leb-true (gain a + loss b) (gain b + loss a) (sym (le_z_sums a b) ∙ ≤ℤ-le_z h)

sums_≤ℤ : (a b : ℤ) → gain a + loss b ≤ gain b + loss a → a ≤ℤ b
sums_≤ℤ a b h = le_z-≤ℤ (le_z_sums a b ∙ le-leb (gain a + loss b) (gain b + loss a) h)

pub ≤ℤ_trans : {a b c : ℤ} → a ≤ℤ b → b ≤ℤ c → a ≤ℤ c
≤ℤ_trans {a} {b} {c} h k = sums_≤ℤ a c (omega (arith, ≤ℤ_sums h, ≤ℤ_sums k))

pub ≤ℤ_total : (a b : ℤ) → le_z a b ≡ false → b ≤ℤ a
≤ℤ_total a b e =
    let less : _ = leb-false (gain a + loss b) (gain b + loss a) (sym (le_z_sums a b) ∙ e) in
    sums_≤ℤ b a (omega (arith, less))

+ℤ_sums : (a k : ℤ) → a +ℤ k ≡ sub_ℕ (gain a + gain k) (loss a + loss k)
+ℤ_sums a k = sym (ap (λ (z : ℤ). z +ℤ k) (sub_ℕ_gain_loss a)) ∙ sub_ℕ-sum k (gain a) (loss a)

pub le_z_shift : (a b k : ℤ) → le_z (a +ℤ k) (b +ℤ k) ≡ le_z a b
le_z_shift a b k =
    rw (+ℤ_sums a k, +ℤ_sums b k)
    (le_z-sub_ℕ (gain a + gain k) (loss a + loss k) (gain b + gain k) (loss b + loss k)
    ∙ leb-same (gain a + gain k + (loss b + loss k)) (gain b + gain k + (loss a + loss k)) (gain a + loss b)
    (gain b + loss a)
    (omega arith)
    (omega arith)
    ∙ sym (le_z_sums a b))

pub ≤ℤ_shift : {a b : ℤ} (k : ℤ) → a ≤ℤ b → (a +ℤ k) ≤ℤ (b +ℤ k)
≤ℤ_shift {a} {b} k h = le_z-≤ℤ (le_z_shift a b k ∙ ≤ℤ-le_z h)

pub <ℤ_shift : {a b : ℤ} (k : ℤ) → a <ℤ b → (a +ℤ k) <ℤ (b +ℤ k)
<ℤ_shift {a} {b} k h =
    lt_z-<ℤ
    (lt_z_not_le_z (a +ℤ k) (b +ℤ k) ∙ ap not (le_z_shift b a k) ∙ sym (lt_z_not_le_z a b) ∙ <ℤ-lt_z h)
