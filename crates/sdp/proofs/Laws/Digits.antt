-- Digits and the numbers that they spell, each by induction on the digits, for any count of them.
use Prim.Native.Nat.{ℕ, zero, suc, ◌+◌, ◌-◌, ◌*◌, ◌/◌, ◌%◌, ◌^◌, ◌≤◌, ◌<◌, min}
use mathlib.Core.Bool.{Bool, true, false, cond, ◌&&◌, and-eq-true_iff}
use mathlib.Core.List.{List, [], ◌∷◌, ◌++◌, append-nil, append_assoc}
use mathlib.Core.Path.{◌≡◌, refl, sym, ap, ◌∙◌}
use lib.Dec.{leb, eqb}
use Rattle.std.specs.Char.{is_ascii_digit}
use Rattle.std.specs.List.{list_all, prefix_len}
use lib.ListN.{length, get_or, set, take, drop, length-append, replicate, replicate-append-replicate}
use lib.Pow.{pow-add}
use lib.Seq.{take-suc, set_split, drop_at, length-take-le, append_snoc}
use native.Mathlib.Nat.{pow-suc, pow-le-pow_right}
use native.Mathlib.Nat.{add-mul, mul_assoc, mul-le-mul_right, add-zero, add-suc, zero-mul}
use native.Mathlib.Numerals.{add-one}
use native.Mathlib.Omega.{arith}
use borrow.Author.Tests.{leb-true, le-leb, eqb-true}
use Rattle.sdp.specs.Digits.{is_digit, are_digits, zero_digit, value_of, digits_of}
use Rattle.sdp.specs.Digits.{has_leading_zero, without_leading_zeros}

-- ---- are_digits

pub digit_bounds : (b : ℕ) → is_digit b ≡ true → (48 ≤ b) × (b ≤ 57)
unfolding is_digit
digit_bounds b e =
    let both : _ = (and-eq-true_iff (leb 48 b) (leb b 57)).0 e in
    (leb-true 48 b both.0, leb-true b 57 both.1)

pub bounds_digit : (b : ℕ) → 48 ≤ b → b ≤ 57 → is_digit b ≡ true
unfolding is_digit
bounds_digit b low high = rw (le-leb 48 b low, le-leb b 57 high) refl

pub digits_split : (b : ℕ) (l : List ℕ) → are_digits (b ∷ l) ≡ true → (is_digit b ≡ true) × (are_digits l ≡ true)
unfolding are_digits
digits_split b l e = (and-eq-true_iff (is_digit b) (are_digits l)).0 e

pub digits_joined : (b : ℕ) (l : List ℕ) → is_digit b ≡ true → are_digits l ≡ true → are_digits (b ∷ l) ≡ true
unfolding are_digits
digits_joined b l e h = rw (e, h) refl

pub digits_append : (a b : List ℕ) → are_digits a ≡ true → are_digits b ≡ true → are_digits (a ++ b) ≡ true
unfolding are_digits
digits_append [] b e h = h
digits_append (x ∷ a) b e h =
    let first : _ = digits_split x a e in
    digits_joined x (a ++ b) first.0 (digits_append a b first.1 h)

-- are_digits as the library goes over a slice
pub all_digits : (l : List ℕ) → list_all is_ascii_digit l ≡ are_digits l
unfolding is_digit are_digits
all_digits [] = refl
all_digits (b ∷ l) = ap (λ (r : Bool). is_ascii_digit b && r) (all_digits l)

-- the first digits, and one of them
pub digits_front : (l : List ℕ) (i : ℕ) → are_digits l ≡ true → are_digits (take i l) ≡ true
unfolding are_digits
digits_front l zero e = refl
digits_front [] (suc i) e = refl
digits_front (b ∷ l) (suc i) e =
    let both : _ = digits_split b l e in digits_joined b (take i l) both.0 (digits_front l i both.1)

pub digit_at : (l : List ℕ) (i : ℕ) → are_digits l ≡ true → i < length l → (48 ≤ get_or l i 0) × (get_or l i 0 ≤ 57)
digit_at [] i e h = absurd (omega arith)
digit_at (b ∷ l) zero e h = digit_bounds b (digits_split b l e).0
digit_at (b ∷ l) (suc i) e h = digit_at l i (digits_split b l e).1 (omega arith)

-- ---- value_of

-- a number with one more digit behind it, over what stands for 10 ^ length
shifted : (x v p q : ℕ) → (x * p + v) * q ≡ x * (p * q) + v * q
shifted x v p q = add-mul (x * p) v q ∙ ap (λ (k : ℕ). k + v * q) (mul_assoc x p q)

pub value_append : (a b : List ℕ) → value_of (a ++ b) ≡ value_of a * 10 ^ length b + value_of b
unfolding value_of
value_append [] b = omega arith
value_append (x ∷ a) b =
    let d = x - zero_digit in
    let power : 10 ^ length (a ++ b) ≡ 10 ^ length a * 10 ^ length b =
    ap (λ (k : ℕ). 10 ^ k) (length-append a b) ∙ pow-add 10 (length a) (length b) in
    let rest : value_of (a ++ b) ≡ value_of a * 10 ^ length b + value_of b = value_append a b in
    let front : d * 10 ^ length (a ++ b) ≡ d * (10 ^ length a * 10 ^ length b) = ap (λ (k : ℕ). d * k) power in
    omega (arith, front, rest, shifted d (value_of a) (10 ^ length a) (10 ^ length b))

pub value_bound : (l : List ℕ) → are_digits l ≡ true → value_of l < 10 ^ length l
unfolding value_of
value_bound [] e = omega arith
value_bound (b ∷ l) e =
    let rest : _ = value_bound l (digits_split b l e).1 in
    let high : b ≤ 57 = (digit_bounds b (digits_split b l e).0).1 in
    let first : (b - 48) * 10 ^ length l ≤ 9 * 10 ^ length l = mul-le-mul_right (10 ^ length l) (omega arith) in
    omega (arith, rest, first, pow-suc 10 (length l))

-- the number that the first digits spell: with one more, and its bound
module _ (l : List ℕ) (i : ℕ) (h : i < length l) where
  pub value_more : value_of (take (i + 1) l) ≡ value_of (take i l) * 10 + (get_or l i 0 - 48)
  unfolding value_of
  value_more =
      rw (add-one i, take-suc l i 0 h) (value_append (take i l) (get_or l i 0 ∷ []) ∙ omega arith)

  pub nine_digits : are_digits l ≡ true → length l ≤ 10 → value_of (take i l) < 10 ^ 9
  nine_digits e few =
      let nine : i ≤ 9 = omega arith in
      let most : 10 ^ i ≤ 10 ^ 9 = pow-le-pow_right (omega arith) nine in
      let low : _ = value_bound (take i l) (digits_front l i e) in
      omega (arith, rw (length-take-le i l (omega arith)) at low, most)

-- ---- digits_of

pub length_digits : (count n : ℕ) → length (digits_of count n) ≡ count
unfolding digits_of
length_digits zero n = refl
length_digits (suc count) n =
    length-append (digits_of count (n / 10)) ((zero_digit + n % 10) ∷ [])
    ∙ ap (λ (k : ℕ). k + 1) (length_digits count (n / 10))
    ∙ add-one count

pub digits_of_lem : (count n : ℕ) → are_digits (digits_of count n) ≡ true
unfolding digits_of are_digits
digits_of_lem zero n = refl
digits_of_lem (suc count) n =
    digits_append (digits_of count (n / 10)) ((zero_digit + n % 10) ∷ []) (digits_of_lem count (n / 10))
    (rw (bounds_digit (48 + n % 10) (omega arith) (omega arith)) refl)

-- number to digits, and back
pub value_digits : (count n : ℕ) → n < 10 ^ count → value_of (digits_of count n) ≡ n
unfolding digits_of value_of
value_digits zero n h = omega arith
value_digits (suc count) n h =
    let rest : _ = value_digits count (n / 10) (omega (arith, pow-suc 10 count)) in
    value_append (digits_of count (n / 10)) ((zero_digit + n % 10) ∷ []) ∙ omega (arith, rest)

-- the digits of a number in two parts
pub digits_parts :
    (count k a v : ℕ) → v < 10 ^ k → digits_of (count + k) (a * 10 ^ k + v) ≡ digits_of count a ++ digits_of k v
unfolding digits_of
digits_parts count zero a v h =
    let n : a * 10 ^ 0 + v ≡ a = omega arith in
    rw (add-zero count, n, append-nil (digits_of count a)) refl
digits_parts count (suc k) a v h =
    let power : 10 ^ suc k ≡ 10 ^ k * 10 = pow-suc 10 k in
    let whole : a * 10 ^ suc k ≡ a * 10 ^ k * 10 =
    ap (λ (p : ℕ). a * p) power ∙ sym (mul_assoc a (10 ^ k) 10) in
    let front : (a * 10 ^ suc k + v) / 10 ≡ a * 10 ^ k + v / 10 = omega (arith, whole) in
    let last : (a * 10 ^ suc k + v) % 10 ≡ v % 10 = omega (arith, whole) in
    let rest : _ = digits_parts count k a (v / 10) (omega (arith, power)) in
    rw (
      add-suc count k,
      front,
      last,
      rest,
      append_assoc (digits_of count a) (digits_of k (v / 10)) ((zero_digit + v % 10) ∷ []),
    )
    refl

-- digits to number, and back
pub digits_value : (l : List ℕ) → are_digits l ≡ true → digits_of (length l) (value_of l) ≡ l
unfolding value_of digits_of
digits_value [] e = refl
digits_value (b ∷ l) e =
    let first : _ = digit_bounds b (digits_split b l e).0 in
    let rest : _ = (digits_split b l e).1 in
    let parts : _ = digits_parts 1 (length l) (b - 48) (value_of l) (value_bound l rest) in
    let digit : 48 + (b - 48) % 10 ≡ b = omega (arith, first.0, first.1) in
    let count : suc (length l) ≡ 1 + length l = omega arith in
    ap (λ (k : ℕ). digits_of k ((b - 48) * 10 ^ length l + value_of l)) count
    ∙ parts
    ∙ ap (λ (d : ℕ). d ∷ digits_of (length l) (value_of l)) digit
    ∙ ap (λ (r : List ℕ). b ∷ r) (digits_value l rest)

pub digits_zero : (count : ℕ) → digits_of count 0 ≡ replicate count zero_digit
unfolding digits_of
digits_zero zero = refl
digits_zero (suc count) =
    ap (λ (r : List ℕ). r ++ zero_digit ∷ []) (digits_zero count)
    ∙ replicate-append-replicate count 1 zero_digit
    ∙ ap (λ (k : ℕ). replicate k zero_digit) (add-one count)

-- the last digit put at its place, with the others left to put
pub digit_put :
    (i rest : ℕ) (l : List ℕ) → 0 < i → i ≤ length l
    → digits_of (i - 1) (rest / 10) ++ drop (i - 1) (set l (i - 1) (48 + rest % 10)) ≡ digits_of i rest ++ drop i l
unfolding digits_of
digit_put zero rest l h k = absurd (omega arith)
digit_put (suc i) rest l h k =
    let a = 48 + rest % 10 in
    let here : drop i (set l i a) ≡ a ∷ drop (suc i) l =
    ap (drop i) (set_split l i a (omega arith))
    ∙ drop_at (take i l) (a ∷ drop (suc i) l) i (length-take-le i l (omega arith)) in
    let one : suc i - 1 ≡ i = omega arith in
    ap (λ (k : ℕ). digits_of k (rest / 10) ++ drop k (set l k a)) one
    ∙ ap (λ (r : List ℕ). digits_of i (rest / 10) ++ r) here
    ∙ sym (append_snoc (digits_of i (rest / 10)) a (drop (suc i) l))

-- ---- without_leading_zeros and has_leading_zero

-- as many zeros as there are in front, and the last digit kept
abbrev pub zeros_in_front : List ℕ → ℕ
zeros_in_front l = prefix_len (λ (b : ℕ). eqb b zero_digit) l

pub zeros_left : (l : List ℕ) → drop (min (zeros_in_front l) (length l - 1)) l ≡ without_leading_zeros l
unfolding without_leading_zeros
zeros_left [] = refl
zeros_left (b ∷ []) = grind arith
zeros_left (b ∷ c ∷ l) = go (eqb b zero_digit) (zeros_left (c ∷ l))
  where
    go :
        (t : Bool) → drop (min (zeros_in_front (c ∷ l)) (length (c ∷ l) - 1)) (c ∷ l) ≡ without_leading_zeros (c ∷ l)
        → drop (min (cond t (1 + zeros_in_front (c ∷ l)) 0) (length (b ∷ c ∷ l) - 1)) (b ∷ c ∷ l)
        ≡ cond t (without_leading_zeros (c ∷ l)) (b ∷ c ∷ l)
    go true e =
        let more :
        min (1 + zeros_in_front (c ∷ l)) (length (b ∷ c ∷ l) - 1)
        ≡ suc (min (zeros_in_front (c ∷ l)) (length (c ∷ l) - 1)) =
        omega arith in
        rw more e
    go false e =
        let none : min 0 (length (b ∷ c ∷ l) - 1) ≡ 0 = omega arith in
        rw none refl

-- the first of two digits is a zero or is not
by_first :
    (C : List ℕ → Type 0) (b c : ℕ) (l : List ℕ) → C (without_leading_zeros (c ∷ l)) → C (b ∷ c ∷ l)
    → C (without_leading_zeros (b ∷ c ∷ l))
unfolding without_leading_zeros
by_first C b c l zeros rest = go (eqb b zero_digit)
  where
    go : (t : Bool) → C (cond t (without_leading_zeros (c ∷ l)) (b ∷ c ∷ l))
    go true = zeros
    go false = rest

pub value_without : (l : List ℕ) → value_of (without_leading_zeros l) ≡ value_of l
unfolding without_leading_zeros value_of
value_without [] = refl
value_without (b ∷ []) = refl
value_without (b ∷ c ∷ l) = go (eqb b zero_digit) refl (value_without (c ∷ l))
  where
    go :
        (t : Bool) → eqb b zero_digit ≡ t → value_of (without_leading_zeros (c ∷ l)) ≡ value_of (c ∷ l)
        → value_of (cond t (without_leading_zeros (c ∷ l)) (b ∷ c ∷ l)) ≡ value_of (b ∷ c ∷ l)
    go true e h =
        let none : (b - 48) * 10 ^ suc (length l) ≡ 0 =
        ap (λ (x : ℕ). (x - 48) * 10 ^ suc (length l)) (eqb-true b 48 e) ∙ zero-mul (10 ^ suc (length l)) in
        h ∙ omega (arith, none)
    go false e h = refl

pub digits_without : (l : List ℕ) → are_digits l ≡ true → are_digits (without_leading_zeros l) ≡ true
unfolding without_leading_zeros
digits_without [] e = e
digits_without (b ∷ []) e = e
digits_without (b ∷ c ∷ l) e =
    by_first (λ (r : List ℕ). are_digits r ≡ true) b c l (digits_without (c ∷ l) (digits_split b (c ∷ l) e).1) e

pub length_without : (l : List ℕ) → length (without_leading_zeros l) ≤ length l
unfolding without_leading_zeros
length_without [] = omega arith
length_without (b ∷ []) = omega arith
length_without (b ∷ c ∷ l) =
    by_first (λ (r : List ℕ). length r ≤ length (b ∷ c ∷ l)) b c l (omega (arith, length_without (c ∷ l))) (omega arith)

pub some_without : (l : List ℕ) → 1 ≤ length l → 1 ≤ length (without_leading_zeros l)
unfolding without_leading_zeros
some_without [] h = h
some_without (b ∷ []) h = h
some_without (b ∷ c ∷ l) h =
    by_first (λ (r : List ℕ). 1 ≤ length r) b c l (some_without (c ∷ l) (omega arith)) (omega arith)

-- zeros in front are gone
pub zeros_without :
    (count : ℕ) (l : List ℕ) → 1 ≤ length l
    → without_leading_zeros (replicate count zero_digit ++ l) ≡ without_leading_zeros l
unfolding without_leading_zeros
zeros_without zero l h = refl
zeros_without (suc count) l h =
    one (replicate count zero_digit ++ l) (omega (arith, length-append (replicate count zero_digit) l))
    ∙ zeros_without count l h
  where
    one : (r : List ℕ) → 1 ≤ length r → without_leading_zeros (zero_digit ∷ r) ≡ without_leading_zeros r
    one [] h = absurd (omega arith)
    one (c ∷ r) h = refl

-- what is gone are zeros
pub zeros_gone : (l : List ℕ) → (count : ℕ) × (l ≡ replicate count zero_digit ++ without_leading_zeros l)
unfolding without_leading_zeros
zeros_gone [] = (0, refl)
zeros_gone (b ∷ []) = (0, refl)
zeros_gone (b ∷ c ∷ l) = go (eqb b zero_digit) refl (zeros_gone (c ∷ l))
  where
    go :
        (t : Bool) → eqb b zero_digit ≡ t
        → (count : ℕ) × (c ∷ l ≡ replicate count zero_digit ++ without_leading_zeros (c ∷ l))
        → (count : ℕ) × (b ∷ c ∷ l ≡ replicate count zero_digit ++ cond t (without_leading_zeros (c ∷ l)) (b ∷ c ∷ l))
    go true e (count, h) =
        (suc count, ap (λ (x : ℕ). x ∷ c ∷ l) (eqb-true b zero_digit e) ∙ ap (λ (r : List ℕ). zero_digit ∷ r) h)
    go false e h = (0, refl)

pub no_leading_zero : (l : List ℕ) → has_leading_zero (without_leading_zeros l) ≡ false
unfolding without_leading_zeros has_leading_zero
no_leading_zero [] = refl
no_leading_zero (b ∷ []) = refl
no_leading_zero (b ∷ c ∷ l) = go (eqb b zero_digit) refl (no_leading_zero (c ∷ l))
  where
    go :
        (t : Bool) → eqb b zero_digit ≡ t → has_leading_zero (without_leading_zeros (c ∷ l)) ≡ false
        → has_leading_zero (cond t (without_leading_zeros (c ∷ l)) (b ∷ c ∷ l)) ≡ false
    go true e h = h
    go false e h = e

pub without_none : (l : List ℕ) → has_leading_zero l ≡ false → without_leading_zeros l ≡ l
unfolding without_leading_zeros has_leading_zero
without_none [] e = refl
without_none (b ∷ []) e = refl
without_none (b ∷ c ∷ l) e = rw e refl

-- the digits of the number that digits spell, however many are asked for, are those digits but for leading zeros
pub digits_again :
    (count : ℕ) (l : List ℕ) → are_digits l ≡ true → 1 ≤ length l → length l ≤ count
    → without_leading_zeros (digits_of count (value_of l)) ≡ without_leading_zeros l
digits_again count l e some few =
    let more = count - length l in
    let sum : more + length l ≡ count = omega arith in
    let parts : digits_of (more + length l) (0 * 10 ^ length l + value_of l)
    ≡ digits_of more 0 ++ digits_of (length l) (value_of l) =
    digits_parts more (length l) 0 (value_of l) (value_bound l e) in
    let whole : 0 * 10 ^ length l + value_of l ≡ value_of l = omega arith in
    ap without_leading_zeros
    (sym (ap (λ (k : ℕ). digits_of k (value_of l)) sum)
    ∙ sym (ap (digits_of (more + length l)) whole)
    ∙ parts
    ∙ ap (λ (r : List ℕ). r ++ digits_of (length l) (value_of l)) (digits_zero more)
    ∙ ap (λ (r : List ℕ). replicate more zero_digit ++ r) (digits_value l e))
    ∙ zeros_without more l some
