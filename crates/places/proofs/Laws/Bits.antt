-- Laws of the bits of the word: place by place, its lowest bit and the word above it, and the word with one place more
-- or one less.
use Prim.Native.Nat.{ℕ, zero, suc, ◌+◌, ◌-◌, ◌*◌, ◌/◌, ◌%◌, ◌^◌, ◌≤◌, ◌<◌, max}
use mathlib.Core.Bool.{Bool, true, false, not, cond, ◌&&◌}
use mathlib.Core.Path.{◌≡◌, refl, sym, ap, ap₂, ◌∙◌}
use lib.Bits.{bit_or, or_step, or_zero_r, or_lt}
use lib.Dec.{eqb, ltb, lit<}
use native.Mathlib.Nat.{pow-zero, pow-suc, pow-succ', pow-le-pow_right, div-one, div-eq_of_lt, div-div-eq-div-mul}
use native.Mathlib.Nat.{max-zero}
use native.Mathlib.Numerals.{add-one}
use native.Mathlib.Omega.{arith}
use borrow.Author.Tests.{eqb-true, eqb-false, eq-eqb, ne_eqb, not-true, not-false, ltb-true, lt-ltb}
use Rattle.places.specs.Places.{is_free, is_held, bit, with_place, without_place}

-- two tests of numbers agree where each makes the other true
pub eqb_same : (a b c d : ℕ) → (a ≡ b → c ≡ d) → (c ≡ d → a ≡ b) → eqb a b ≡ eqb c d
eqb_same a b c d there back = go (eqb c d) refl
  where
    go : (t : Bool) → eqb c d ≡ t → eqb a b ≡ eqb c d
    go true e = eq-eqb a b (back (eqb-true c d e)) ∙ sym e
    go false e = ne_eqb a b (λ same. eqb-false c d e (there same)) ∙ sym e

-- ---- place by place

-- the first place is held where it is not free
pub held_first : (word : ℕ) → is_held 0 word ≡ not (is_free word)
unfolding is_held
held_first word = rw (pow-zero 2, div-one word) (go (is_free word) refl)
  where
    go : (t : Bool) → is_free word ≡ t → eqb (word % 2) 1 ≡ not (is_free word)
    go true e = ne_eqb (word % 2) 1 (λ z. omega (arith, z, eqb-true (word % 2) 0 e)) ∙ ap not (sym e)
    go false e = eq-eqb (word % 2) 1 (omega (arith, eqb-false (word % 2) 0 e)) ∙ ap not (sym e)

-- any other as the one before it in the word halved
pub held_next : (place word : ℕ) → is_held (suc place) word ≡ is_held place (word / 2)
unfolding is_held
held_next place word =
    ap (λ (n : ℕ). eqb (n % 2) 1)
    (ap (λ (n : ℕ). word / n) (pow-succ' 2 place) ∙ sym (div-div-eq-div-mul word 2 (2 ^ place)))

-- ---- the lowest bit, and the word above it

pub lowest_bit : (yes : Bool) (rest : ℕ) → is_free (bit yes + 2 * rest) ≡ not yes
lowest_bit true rest = ne_eqb ((1 + 2 * rest) % 2) 0 (λ z. omega (arith, z))
lowest_bit false rest = eq-eqb ((0 + 2 * rest) % 2) 0 (omega arith)

pub bit_half : (yes : Bool) (rest : ℕ) → (bit yes + 2 * rest) / 2 ≡ rest
bit_half true rest = omega arith
bit_half false rest = omega arith

pub bit-none : (yes : Bool) (rest : ℕ) → eqb (bit yes + 2 * rest) 0 ≡ (not yes && eqb rest 0)
bit-none true rest = ne_eqb (1 + 2 * rest) 0 (λ z. absurd (omega (arith, z)))
bit-none false rest = eqb_same (0 + 2 * rest) 0 rest 0 (λ z. omega (arith, z)) (λ z. omega (arith, z))

-- a bit above the lowest is added
pub added_lowest : (word place : ℕ) → is_free (word + 2 ^ suc place) ≡ is_free word
added_lowest word place =
    let e : (word + 2 ^ suc place) % 2 ≡ word % 2 = omega (arith, pow-suc 2 place) in
    ap (λ (n : ℕ). eqb n 0) e

pub added_half : (word place : ℕ) → (word + 2 ^ suc place) / 2 ≡ word / 2 + 2 ^ place
added_half word place = omega (arith, pow-suc 2 place)

pub power_next : (i : ℕ) → 2 ^ (i + 1) ≡ 2 ^ i * 2
power_next i = ap (λ (k : ℕ). 2 ^ k) (add-one i) ∙ pow-suc 2 i

-- a word that marks one of 64 places is the power itself
pub bit_fits : (place : ℕ) → place < 64 → 1 * 2 ^ place % 2 ^ 64 ≡ 2 ^ place
bit_fits place h =
    let small : place ≤ 63 = omega arith in
    let below : 2 ^ place ≤ 2 ^ 63 = pow-le-pow_right {n = 2} (lit< tt) {i = place} {j = 63} small in
    omega arith

-- ---- one place more

-- a place above all bits is free
pub above_free : (place word : ℕ) → word < 2 ^ place → is_held place word ≡ false
unfolding is_held
above_free place word h = ne_eqb (word / 2 ^ place % 2) 1 (λ z. omega (arith, z, div-eq_of_lt h))

or_first : (word : ℕ) (t : Bool) → is_free word ≡ t → word / 2 * 2 + max (word % 2) 1 ≡ cond (not t) word (word + 1)
or_first word true e = let even : word % 2 ≡ 0 = eqb-true (word % 2) 0 e in rw even (omega (arith, even))
or_first word false e =
    let odd : word % 2 ≡ 1 = omega (arith, eqb-false (word % 2) 0 e) in
    rw odd (omega (arith, odd))

or_above :
    (word power : ℕ) (t : Bool) →
    cond t (word / 2) (word / 2 + power) * 2 + word % 2 ≡ cond t word (word + power * 2)
or_above word power true = omega arith
or_above word power false = omega arith

-- the bit of a place or-ed to the word is added unless the place is held
pub or_bit : (place word : ℕ) → bit_or word (2 ^ place) ≡ cond (is_held place word) word (word + 2 ^ place)
or_bit zero word =
    rw (pow-zero 2, held_first word)
    (or_step word 1
    ∙ ap (λ (n : ℕ). n * 2 + max (word % 2) 1) (or_zero_r (word / 2))
    ∙ or_first word (is_free word) refl)
or_bit (suc place) word =
    let half : 2 ^ suc place / 2 ≡ 2 ^ place = omega (arith, pow-suc 2 place) in
    let even : 2 ^ suc place % 2 ≡ 0 = omega (arith, pow-suc 2 place) in
    rw (held_next place word)
    (or_step word (2 ^ suc place)
    ∙ ap₂ (λ (m n : ℕ). bit_or (word / 2) m * 2 + n) half (ap (max (word % 2)) even ∙ max-zero (word % 2))
    ∙ ap (λ (n : ℕ). n * 2 + word % 2) (or_bit place (word / 2))
    ∙ or_above word (2 ^ place) (is_held place (word / 2))
    ∙ ap (λ (n : ℕ). cond (is_held place (word / 2)) word (word + n)) (sym (pow-suc 2 place)))

not-cond : (t : Bool) (m n : ℕ) → cond t m n ≡ cond (not t) n m
not-cond true m n = refl
not-cond false m n = refl

pub or_with_place : (word place : ℕ) → place < 64 → bit_or word (1 * 2 ^ place % 2 ^ 64) ≡ with_place word place
unfolding with_place
or_with_place word place h =
    rw (bit_fits place h, lt-ltb place 64 h) (or_bit place word ∙ not-cond (is_held place word) word (word + 2 ^ place))

-- a free place's bit is added
pub with_free : (word place : ℕ) → place < 64 → is_held place word ≡ false → with_place word place ≡ word + 2 ^ place
unfolding with_place
with_free word place h free = rw (lt-ltb place 64 h, free) refl

-- what is added where a place is free marks it, and no other
added_here : (place word : ℕ) → is_held place word ≡ false → is_held place (word + 2 ^ place) ≡ true
added_here zero word free =
    let even : is_free word ≡ true = not-false (is_free word) (sym (held_first word) ∙ free) in
    let odd : is_free (word + 2 ^ 0) ≡ false =
    ne_eqb ((word + 2 ^ 0) % 2) 0 (λ z. omega (arith, z, pow-zero 2, eqb-true (word % 2) 0 even)) in
    held_first (word + 2 ^ 0) ∙ ap not odd
added_here (suc place) word free =
    held_next place (word + 2 ^ suc place)
    ∙ ap (is_held place) (added_half word place)
    ∙ added_here place (word / 2) (sym (held_next place word) ∙ free)

added_other :
    (place other word : ℕ) → is_held place word ≡ false → (other ≡ place → ⊥) →
    is_held other (word + 2 ^ place) ≡ is_held other word
added_other zero zero word free apart = absurd (apart refl)
added_other zero (suc other) word free apart =
    let even : is_free word ≡ true = not-false (is_free word) (sym (held_first word) ∙ free) in
    let half : (word + 2 ^ 0) / 2 ≡ word / 2 = omega (arith, pow-zero 2, eqb-true (word % 2) 0 even) in
    held_next other (word + 2 ^ 0) ∙ ap (is_held other) half ∙ sym (held_next other word)
added_other (suc place) zero word free apart =
    held_first (word + 2 ^ suc place) ∙ ap not (added_lowest word place) ∙ sym (held_first word)
added_other (suc place) (suc other) word free apart =
    held_next other (word + 2 ^ suc place)
    ∙ ap (is_held other) (added_half word place)
    ∙ added_other place other (word / 2) (sym (held_next place word) ∙ free) (λ e. apart (ap suc e))
    ∙ sym (held_next other word)

-- the word with a free place marks it too, and every other place as before
pub with_here : (word place : ℕ) → place < 64 → is_held place word ≡ false → is_held place (with_place word place) ≡ true
with_here word place h free = rw (with_free word place h free) (added_here place word free)

pub with_other :
    (word place other : ℕ) → place < 64 → is_held place word ≡ false → (other ≡ place → ⊥) →
    is_held other (with_place word place) ≡ is_held other word
with_other word place other h free apart =
    rw (with_free word place h free) (added_other place other word free apart)

-- a word of 64 bits stays one
pub with_fits : (word place : ℕ) → word < 2 ^ 64 → with_place word place < 2 ^ 64
unfolding with_place
with_fits word place fits = go (ltb place 64) refl
  where
    go : (t : Bool) → ltb place 64 ≡ t → with_place word place < 2 ^ 64
    go true e =
        let below : place < 64 = ltb-true place 64 e in
        rw (sym (or_with_place word place below))
        (or_lt 64 word (1 * 2 ^ place % 2 ^ 64) fits (omega arith))
    go false e = rw e fits

-- ---- one place less

pub without_fits : (word place : ℕ) → word < 2 ^ 64 → without_place word place < 2 ^ 64
unfolding without_place
without_fits word place fits = go (ltb place 64 && is_held place word)
  where
    go : (t : Bool) → cond t (word - 2 ^ place) word < 2 ^ 64
    go true = omega (arith, fits)
    go false = fits

-- a held place's bit is taken away
pub without_held : (word place : ℕ) → place < 64 → is_held place word ≡ true → without_place word place ≡ word - 2 ^ place
unfolding without_place
without_held word place h held = rw (lt-ltb place 64 h, held) refl

-- it can be, and the place is free then
pub held_apart :
    (place word : ℕ) → is_held place word ≡ true → (2 ^ place ≤ word) × (is_held place (word - 2 ^ place) ≡ false)
held_apart zero word held =
    let odd : is_free word ≡ false = not-true (is_free word) (sym (held_first word) ∙ held) in
    let even : is_free (word - 1) ≡ true = eq-eqb ((word - 1) % 2) 0 (omega (arith, eqb-false (word % 2) 0 odd)) in
    (omega (arith, eqb-false (word % 2) 0 odd), held_first (word - 1) ∙ ap not even)
held_apart (suc place) word held =
    let below : _ = held_apart place (word / 2) (sym (held_next place word) ∙ held) in
    let half : (word - 2 ^ suc place) / 2 ≡ word / 2 - 2 ^ place = omega (arith, pow-suc 2 place) in (
      omega (arith, pow-suc 2 place, below.0),
      held_next place (word - 2 ^ suc place) ∙ ap (is_held place) half ∙ below.1,
    )
