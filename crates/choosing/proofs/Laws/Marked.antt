-- Laws of the members that a word marks: place by place, how many there are, and the word of those that pass a test,
-- which a pass over the places makes a bit at a time.
use Prim.Native.Nat.{ℕ, zero, suc, ◌+◌, ◌*◌, ◌/◌, ◌%◌, ◌^◌, ◌≤◌, ◌<◌}
use mathlib.Core.Bool.{Bool, true, false, not, cond, ◌&&◌, ◌||◌}
use mathlib.Core.List.{List, [], ◌∷◌}
use mathlib.Core.Path.{◌≡◌, refl, sym, ap, ◌∙◌}
use lib.Dec.{eqb}
use lib.ListN.{length, get_or, drop, drop_of_length-le}
use lib.Seq.{drop-cons}
use native.Mathlib.Nat.{pow-zero, pow-suc}
use native.Mathlib.Numerals.{add-one}
use native.Mathlib.Omega.{arith}
use borrow.Author.Tests.{eqb-true, eqb-false}
use Rattle.places.specs.Places.{is_free, held_in, bit}
use Rattle.places.proofs.Laws.Bits.{lowest_bit, bit_half, bit-none, power_next, above_free, with_free}
use Rattle.places.proofs.Laws.Free.{held_step}
use Rattle.register.specs.declared.Record.{Record}
use Rattle.register.specs.Register.{Rows, filter, any}
use Rattle.register.specs.Tallies.{Members, records_of}
use Rattle.choosing.specs.Marked.{marked_at, filter_word, nowhere, nobody}

-- ---- one place more

pub marked_free :
    {A : Type 0} (word : ℕ) (m : A) (ms : List A) → is_free word ≡ true → marked_at word (m ∷ ms) ≡ marked_at (word / 2) ms
unfolding marked_at
marked_free word m ms e = rw e refl

pub marked_held :
    {A : Type 0} (word : ℕ) (m : A) (ms : List A) → is_free word ≡ false →
    marked_at word (m ∷ ms) ≡ m ∷ marked_at (word / 2) ms
unfolding marked_at
marked_held word m ms e = rw e refl

-- ---- the rows of members

-- the record of the member at a place
pub row_at : (ms : Members) (place : ℕ) → get_or (records_of ms) place nowhere ≡ (get_or ms place nobody).«record»
unfolding records_of
row_at [] place = refl
row_at (m ∷ ms) zero = refl
row_at (m ∷ ms) (suc place) = row_at ms place

-- those that a word marks
pub rows_of_marked : (word : ℕ) (ms : Members) → records_of (marked_at word ms) ≡ marked_at word (records_of ms)
unfolding records_of marked_at
rows_of_marked word [] = refl
rows_of_marked word (m ∷ ms) = go (is_free word) (rows_of_marked (word / 2) ms)
  where
    go :
        (t : Bool) → records_of (marked_at (word / 2) ms) ≡ marked_at (word / 2) (records_of ms) →
        records_of (cond t (marked_at (word / 2) ms) (m ∷ marked_at (word / 2) ms))
        ≡ cond t (marked_at (word / 2) (records_of ms)) (m.«record» ∷ marked_at (word / 2) (records_of ms))
    go true same = same
    go false same = ap (λ (rows : Rows). m.«record» ∷ rows) same

-- ---- the word of those that pass a test

filter_word-rows :
    {A : Type 0} (yes : Bool) (rest : ℕ) (m : A) (ms : List A) →
    marked_at (bit yes + 2 * rest) (m ∷ ms) ≡ cond yes (m ∷ marked_at rest ms) (marked_at rest ms)
filter_word-rows true rest m ms =
    marked_held (1 + 2 * rest) m ms (lowest_bit true rest) ∙ ap (λ (w : ℕ). m ∷ marked_at w ms) (bit_half true rest)
filter_word-rows false rest m ms =
    marked_free (0 + 2 * rest) m ms (lowest_bit false rest) ∙ ap (λ (w : ℕ). marked_at w ms) (bit_half false rest)

filter-step :
    {A : Type 0} (test : A → Bool) (word rest : ℕ) (m : A) (ms : List A) → (s : Bool) → is_free word ≡ s →
    marked_at rest ms ≡ filter test (marked_at (word / 2) ms) →
    marked_at (bit (not s && test m) + 2 * rest) (m ∷ ms) ≡ filter test (marked_at word (m ∷ ms))
unfolding filter
filter-step test word rest m ms true e same =
    filter_word-rows false rest m ms ∙ same ∙ ap (filter test) (sym (marked_free word m ms e))
filter-step {A} test word rest m ms false e same =
    filter_word-rows (test m) rest m ms
    ∙ ap (λ (rows : List A). cond (test m) (m ∷ rows) rows) same
    ∙ ap (filter test) (sym (marked_held word m ms e))

-- the word marks exactly the rows that pass
pub marked_filter_word :
    {A : Type 0} (test : A → Bool) (word : ℕ) (ms : List A) →
    marked_at (filter_word test word ms) ms ≡ filter test (marked_at word ms)
unfolding filter_word marked_at filter
marked_filter_word test word [] = refl
marked_filter_word test word (m ∷ ms) =
    filter-step test word (filter_word test (word / 2) ms) m ms (is_free word) refl (marked_filter_word test (word / 2) ms)

-- a test of the records is one of the members
pub filter_word_rows_lem :
    (test : Record → Bool) (word : ℕ) (ms : Members) →
    filter_word test word (records_of ms) ≡ filter_word (λ m. test m.«record») word ms
unfolding filter_word records_of
filter_word_rows_lem test word [] = refl
filter_word_rows_lem test word (m ∷ ms) =
    ap (λ (n : ℕ). bit (not (is_free word) && test m.«record») + 2 * n) (filter_word_rows_lem test (word / 2) ms)

fits_step : (yes : Bool) (k rest : ℕ) → rest < 2 ^ k → bit yes + 2 * rest < 2 ^ suc k
fits_step true k rest h = omega (arith, pow-suc 2 k)
fits_step false k rest h = omega (arith, pow-suc 2 k)

-- it has as many bits as there are places
pub filter_word_fits : (test : Record → Bool) (word : ℕ) (ms : Rows) → filter_word test word ms < 2 ^ length ms
unfolding filter_word
filter_word_fits test word [] = omega (arith, pow-zero 2)
filter_word_fits test word (m ∷ ms) =
    fits_step (not (is_free word) && test m) (length ms) (filter_word test (word / 2) ms)
    (filter_word_fits test (word / 2) ms)

not_or : (s t : Bool) → (not s && not t) ≡ not (s || t)
not_or true t = refl
not_or false t = refl

none-step :
    (test : Record → Bool) (word : ℕ) (m : Record) (ms : Rows) (b : Bool) → is_free word ≡ b →
    (not (not b && test m) && not (any test (marked_at (word / 2) ms))) ≡ not (any test (marked_at word (m ∷ ms)))
unfolding any
none-step test word m ms true e = ap (λ (rows : Rows). not (any test rows)) (sym (marked_free word m ms e))
none-step test word m ms false e =
    not_or (test m) (any test (marked_at (word / 2) ms))
    ∙ ap (λ (rows : Rows). not (any test rows)) (sym (marked_held word m ms e))

-- the word is 0 exactly where no row passes
pub word_none :
    (test : Record → Bool) (word : ℕ) (ms : Rows) → eqb (filter_word test word ms) 0 ≡ not (any test (marked_at word ms))
unfolding filter_word any marked_at
word_none test word [] = refl
word_none test word (m ∷ ms) =
    bit-none (not (is_free word) && test m) (filter_word test (word / 2) ms)
    ∙ ap (λ (b : Bool). not (not (is_free word) && test m) && b) (word_none test (word / 2) ms)
    ∙ none-step test word m ms (is_free word) refl

-- ---- how many

ones_step :
    (word k : ℕ) (m : Record) (ms : Rows) → (s : Bool) → is_free word ≡ s → k ≡ length (marked_at (word / 2) ms) →
    word % 2 + k ≡ length (marked_at word (m ∷ ms))
ones_step word k m ms true e same =
    let even : word % 2 ≡ 0 = eqb-true (word % 2) 0 e in
    let rows : length (marked_at word (m ∷ ms)) ≡ length (marked_at (word / 2) ms) =
    ap length (marked_free word m ms e) in
    omega (arith, even, rows, same)
ones_step word k m ms false e same =
    let odd : word % 2 ≡ 0 → ⊥ = eqb-false (word % 2) 0 e in
    let rows : length (marked_at word (m ∷ ms)) ≡ suc (length (marked_at (word / 2) ms)) =
    ap length (marked_held word m ms e) in
    omega (arith, odd, rows, same)

-- as many rows as places held
pub ones_of_rows : (word : ℕ) (ms : Rows) → held_in (length ms) word ≡ length (marked_at word ms)
unfolding held_in marked_at
ones_of_rows word [] = refl
ones_of_rows word (m ∷ ms) =
    held_step (length ms) word
    ∙ ones_step word (held_in (length ms) (word / 2)) m ms (is_free word) refl (ones_of_rows (word / 2) ms)

-- ---- one place more, in a pass over the places

filter_word-step :
    (test : Record → Bool) (word : ℕ) (ms : Rows) (i : ℕ) → i < length ms →
    filter_word test word (drop i ms)
    ≡ bit (not (is_free word) && test (get_or ms i nowhere)) + 2 * filter_word test (word / 2) (drop (i + 1) ms)
unfolding filter_word
filter_word-step test word ms i h = rw (add-one i, drop-cons ms i nowhere h) refl

pub marked_free_at :
    (word : ℕ) (ms : Rows) (i : ℕ) → i < length ms → is_free word ≡ true →
    marked_at word (drop i ms) ≡ marked_at (word / 2) (drop (i + 1) ms)
marked_free_at word ms i h e =
    rw (add-one i, drop-cons ms i nowhere h) (marked_free word (get_or ms i nowhere) (drop (suc i) ms) e)

pub marked_held_at :
    (word : ℕ) (ms : Rows) (i : ℕ) → i < length ms → is_free word ≡ false →
    marked_at word (drop i ms) ≡ get_or ms i nowhere ∷ marked_at (word / 2) (drop (i + 1) ms)
marked_held_at word ms i h e =
    rw (add-one i, drop-cons ms i nowhere h) (marked_held word (get_or ms i nowhere) (drop (suc i) ms) e)

-- a power over a bit and what stands above it
regrouped : (kept p d k : ℕ) → kept + p * (d + 2 * k) ≡ kept + d * p + p * 2 * k
regrouped kept p d k = omega arith

-- after i places a word has the bits of those that pass, and the rest stand above them
pub record KeptSoFar (test : Record → Bool) (held : ℕ) (ms : Rows) (kept word i : ℕ) : Type 0 where
  pub below : kept < 2 ^ i
  pub whole : kept + 2 ^ i * filter_word test word (drop i ms) ≡ filter_word test held ms

pub kept_start : {test : Record → Bool} {held : ℕ} {ms : Rows} → KeptSoFar test held ms 0 held 0
kept_start = record { below = omega arith; whole = omega arith }

pub kept_step :
    {test : Record → Bool} {held : ℕ} {ms : Rows} {kept word i : ℕ} {next : ℕ} (t : Bool) → i < length ms →
    KeptSoFar test held ms kept word i → t ≡ (not (is_free word) && test (get_or ms i nowhere)) →
    (next ≡ kept + bit t * 2 ^ i) × (next < 2 ^ (i + 1)) →
    KeptSoFar test held ms next (word / 2) (i + 1)
kept_step {test} {held} {ms} {kept} {word} {i} {next} t h so e with-bit =
    let rest : ℕ = filter_word test (word / 2) (drop (i + 1) ms) in
    let here : filter_word test word (drop i ms) ≡ bit t + 2 * rest =
    filter_word-step test word ms i h ∙ ap (λ (d : Bool). bit d + 2 * rest) (sym e) in
    let more : kept + 2 ^ i * filter_word test word (drop i ms) ≡ kept + bit t * 2 ^ i + 2 ^ i * 2 * rest =
    ap (λ (n : ℕ). kept + 2 ^ i * n) here ∙ regrouped kept (2 ^ i) (bit t) rest in
    let power : 2 ^ (i + 1) * rest ≡ 2 ^ i * 2 * rest = ap (λ (p : ℕ). p * rest) (power_next i) in
    record { below = with-bit.1; whole = omega (arith, with-bit.0, more, power, so.whole) }

pub kept_end :
    {test : Record → Bool} {held : ℕ} {ms : Rows} {kept word i : ℕ} → length ms ≤ i →
    KeptSoFar test held ms kept word i → kept ≡ filter_word test held ms
unfolding filter_word
kept_end {test} {held} {ms} {kept} {word} {i} h so =
    let none : filter_word test word (drop i ms) ≡ 0 = ap (filter_word test word) (drop_of_length-le ms h) in
    let nothing : 2 ^ i * filter_word test word (drop i ms) ≡ 0 = ap (λ (n : ℕ). 2 ^ i * n) none ∙ omega arith in
    omega (arith, nothing, so.whole)

-- a word of i bits with the bit above them all
pub ruleset bit_in_front = (power_next, above_free, with_free)
