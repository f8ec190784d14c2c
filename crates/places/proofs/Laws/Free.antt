-- Laws of places: what the word's ones count, and what the trailing zeros of its complement are (E4).
use Prim.Native.Nat.{ℕ, zero, suc, ◌+◌, ◌/◌, ◌%◌, ◌^◌, ◌≤◌, ◌<◌}
use mathlib.Core.Bool.{Bool, true, false, not, false≢true}
use mathlib.Core.Logic.{inl, inr, ◌↔◌}
use mathlib.Core.Path.{◌≡◌, refl, sym, ap, ◌∙◌}
use lib.Count.{ones, ones_step, count_trailing_zeros, trailing_le}
use lib.Dec.{eqb}
use native.Mathlib.Nat.{pow-zero, pow-suc}
use native.Mathlib.Omega.{arith}
use borrow.Author.Count.{below_none, below_more}
use borrow.Author.Tests.{eqb-true, eqb-false}
use Rattle.places.specs.Places.{is_free, is_held, bit, held_in, lowest_free}
use Rattle.places.specs.Free.{AllHeld, FreeOrFull, IsLowestFree}
use Rattle.places.proofs.Laws.Bits.{eqb_same, held_first, held_next}

half_below : (k word : ℕ) → word < 2 ^ suc k → word / 2 < 2 ^ k
half_below k word h = omega (arith, pow-suc 2 k)

-- ---- the word's ones

first_bit : (word : ℕ) → bit (is_held 0 word) ≡ word % 2
first_bit word = rw (held_first word) (go (is_free word) refl)
  where
    go : (t : Bool) → is_free word ≡ t → bit (not (is_free word)) ≡ word % 2
    go true e = rw e (sym (eqb-true (word % 2) 0 e))
    go false e = rw e (omega (arith, eqb-false (word % 2) 0 e))

-- the first place, and the others in the word halved
pub held_step : (k word : ℕ) → held_in (suc k) word ≡ word % 2 + held_in k (word / 2)
unfolding held_in
held_step zero word = omega (arith, first_bit word)
held_step (suc k) word =
    let next : bit (is_held (suc k) word) ≡ bit (is_held k (word / 2)) = ap bit (held_next k word) in
    omega (arith, held_step k word, next)

pub ones_held : (k word : ℕ) → word < 2 ^ k → ones word ≡ held_in k word
unfolding held_in ones
ones_held zero word h = let none : word ≡ 0 = omega (arith, pow-zero 2) in ap ones none
ones_held (suc k) word h =
    ones_step word
    ∙ ap (λ (n : ℕ). word % 2 + n) (ones_held k (word / 2) (half_below k word h))
    ∙ sym (held_step k word)

-- as many as there are places exactly where all are held
held_within : (k word : ℕ) → held_in k word ≤ k
unfolding held_in
held_within zero word = omega arith
held_within (suc k) word = go (is_held k word) (held_within k word)
  where
    go : (t : Bool) → held_in k word ≤ k → held_in k word + bit t ≤ suc k
    go true h = omega arith
    go false h = omega arith

all-counted : (k word : ℕ) → AllHeld k word → held_in k word ≡ k
unfolding held_in
all-counted zero word all = refl
all-counted (suc k) word all =
    let last : bit (is_held k word) ≡ 1 = ap bit (all k (omega arith)) in
    omega (arith, last, all-counted k word (λ place h. all place (omega (arith, h))))

-- there is no place below the first
none_below : (word : ℕ) → AllHeld 0 word
none_below word = below_none (λ (p : ℕ). is_held p word ≡ true)

-- with the last place and the others held, all are
all_more : (k word : ℕ) → is_held k word ≡ true → AllHeld k word → AllHeld (suc k) word
all_more k word last all place h =
    below_more (λ (p : ℕ). is_held p word ≡ true) k all last place (omega (arith, h))

counted-all : (k word : ℕ) → held_in k word ≡ k → AllHeld k word
unfolding held_in
counted-all zero word e = none_below word
counted-all (suc k) word e = go (is_held k word) refl (counted-all k word)
  where
    go : (t : Bool) → is_held k word ≡ t → (held_in k word ≡ k → AllHeld k word) → AllHeld (suc k) word
    go true last rest =
        let one : bit (is_held k word) ≡ 1 = ap bit last in
        all_more k word last (rest (omega (arith, e, one)))
    go false last rest =
        let none : bit (is_held k word) ≡ 0 = ap bit last in
        absurd (omega (arith, e, none, held_within k word))

-- ---- the trailing zeros of its complement

trailing_odd : (k n : ℕ) → n % 2 ≡ 1 → count_trailing_zeros (suc k) n ≡ 0
unfolding count_trailing_zeros
trailing_odd k n e = rw e refl

trailing_even : (k n : ℕ) → n % 2 ≡ 0 → count_trailing_zeros (suc k) n ≡ suc (count_trailing_zeros k (n / 2))
unfolding count_trailing_zeros
trailing_even k n e = rw e refl

-- the complement's lowest bit is the word's, turned round: none, where the first place is free
free_here : (k word : ℕ) → word < 2 ^ suc k → is_free word ≡ true → lowest_free (suc k) word ≡ 0
unfolding lowest_free
free_here k word h e = trailing_odd k _ (omega (arith, pow-suc 2 k, eqb-true (word % 2) 0 e))

-- else one more than in the word halved
free_above :
    (k word : ℕ) → word < 2 ^ suc k → is_free word ≡ false → lowest_free (suc k) word ≡ suc (lowest_free k (word / 2))
unfolding lowest_free
free_above k word h e =
    let odd : word % 2 ≡ 0 → ⊥ = eqb-false (word % 2) 0 e in
    trailing_even k _ (omega (arith, pow-suc 2 k, odd))
    ∙ ap (λ (n : ℕ). suc (count_trailing_zeros k n)) (omega (arith, pow-suc 2 k, odd))

pub lowest_free_within : (k word : ℕ) → lowest_free k word ≤ k
unfolding lowest_free
lowest_free_within k word = trailing_le k _

-- ---- what a lowest free place is

-- the first place is held, and those of the word halved are
all_next : (k word : ℕ) → is_free word ≡ false → AllHeld k (word / 2) → AllHeld (suc k) word
all_next k word e all zero h = held_first word ∙ ap not e
all_next k word e all (suc place) h = held_next place word ∙ all place (omega (arith, h))

next_or_full :
    (k word r : ℕ) → is_free word ≡ false → FreeOrFull k (word / 2) r → FreeOrFull (suc k) word (suc r)
next_or_full k word r e (inl (below, free, all)) =
    inl (omega (arith, below), held_next r word ∙ free, all_next r word e all)
next_or_full k word r e (inr (end, all)) = inr (ap suc end, all_next k word e all)

free_or_full : (k word : ℕ) → word < 2 ^ k → FreeOrFull k word (lowest_free k word)
unfolding lowest_free count_trailing_zeros
free_or_full zero word h = inr (refl, none_below word)
free_or_full (suc k) word h = go (is_free word) refl (free_or_full k (word / 2) (half_below k word h))
  where
    go :
        (t : Bool) → is_free word ≡ t → FreeOrFull k (word / 2) (lowest_free k (word / 2)) →
        FreeOrFull (suc k) word (lowest_free (suc k) word)
    go true e rest =
        rw (free_here k word h e) (inl (omega arith, held_first word ∙ ap not e, none_below word))
    go false e rest = rw (free_above k word h e) (next_or_full k word (lowest_free k (word / 2)) e rest)

full_exactly : (k word r : ℕ) → FreeOrFull k word r → (r ≡ k) ↔ AllHeld k word
full_exactly k word r (inl (below, free, all)) =
    ((λ e. absurd (omega (arith, e, below))), (λ full. absurd (false≢true (sym free ∙ full r below))))
full_exactly k word r (inr (end, all)) = ((λ e. all), (λ full. end))

-- Document 02, E4, for every word of k bits.
pub lowest_free-place : (k word : ℕ) → word < 2 ^ k → IsLowestFree k word (lowest_free k word)
lowest_free-place k word h = (free_or_full k word h, full_exactly k word (lowest_free k word) (free_or_full k word h))

-- below k, it is free, and every place below it is held
pub lowest_free_below :
    (k word : ℕ) → word < 2 ^ k → lowest_free k word < k →
    (is_held (lowest_free k word) word ≡ false) × AllHeld (lowest_free k word) word
lowest_free_below k word h below = go (lowest_free-place k word h).0
  where
    go :
        FreeOrFull k word (lowest_free k word) →
        (is_held (lowest_free k word) word ≡ false) × AllHeld (lowest_free k word) word
    go (inl (b, free, all)) = (free, all)
    go (inr (end, all)) = absurd (omega (arith, end, below))

-- no place is free exactly where as many are held as there are places
pub full_held : (k word : ℕ) → word < 2 ^ k → eqb (lowest_free k word) k ≡ eqb (held_in k word) k
full_held k word h =
    let exactly : _ = (lowest_free-place k word h).1 in
    eqb_same (lowest_free k word) k (held_in k word) k
    (λ e. all-counted k word (exactly.0 e))
    (λ e. exactly.1 (counted-all k word e))
