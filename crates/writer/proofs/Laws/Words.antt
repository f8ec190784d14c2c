-- Words and their bytes: four bytes spell the word that they are of, and the other way round.
use Prim.Native.Nat.{ℕ, suc, zero, ◌+◌, ◌*◌, ◌/◌, ◌%◌, ◌^◌, ◌≤◌, ◌<◌}
use mathlib.Core.Path.{◌≡◌, refl, sym, ap, ◌∙◌}
use mathlib.Core.List.{List, [], ◌∷◌, ◌++◌}
use lib.ListN.{length, take, drop}
use lib.Seq.{drop-cons, take-add, drop-drop}
use native.Mathlib.Nat.{div-div-eq-div-mul, div-add-mod', mod-eq_of_lt}
use native.Mathlib.Numerals.{add-one, add-two, add-three}
use native.Mathlib.Omega.{arith}
use Rattle.packet.specs.Bytes.{AreBytes, byte, from_bytes, be32, be64}
use Rattle.rtcp.specs.Puts.{flat}
use Rattle.packet.proofs.Laws.Bytes.{be32_bound}
use Rattle.writer.specs.Messages.{bytes32}
use Rattle.writer.specs.RoundTrip.{part}

-- ---- a word as it is read back

abbrev pub spelt : ℕ → ℕ
spelt n = from_bytes (n / 2 ^ 24 % 2 ^ 8) (n / 2 ^ 16 % 2 ^ 8) (n / 2 ^ 8 % 2 ^ 8) (n % 2 ^ 8)

-- quotients and remainders by 2^8 in turn
recompose :
    (n q₁ q₂ q₃ r₀ r₁ r₂ : ℕ) → q₁ * 2 ^ 8 + r₀ ≡ n → q₂ * 2 ^ 8 + r₁ ≡ q₁ → q₃ * 2 ^ 8 + r₂ ≡ q₂
    → from_bytes q₃ r₂ r₁ r₀ ≡ n
recompose n q₁ q₂ q₃ r₀ r₁ r₂ e₁ e₂ e₃ = omega arith

pub spelt_word : (n : ℕ) → n < 2 ^ 32 → spelt n ≡ n
spelt_word n h =
    let top : n / 2 ^ 24 < 2 ^ 8 = omega arith in
    let two : n / 2 ^ 8 / 2 ^ 8 ≡ n / 2 ^ 16 = div-div-eq-div-mul n (2 ^ 8) (2 ^ 8) in
    let three : n / 2 ^ 16 / 2 ^ 8 ≡ n / 2 ^ 24 = div-div-eq-div-mul n (2 ^ 16) (2 ^ 8) in
    rw (mod-eq_of_lt top)
    (recompose n (n / 2 ^ 8) (n / 2 ^ 16) (n / 2 ^ 24) (n % 2 ^ 8) (n / 2 ^ 8 % 2 ^ 8) (n / 2 ^ 16 % 2 ^ 8)
    (div-add-mod' n (2 ^ 8))
    (rw two at (div-add-mod' (n / 2 ^ 8) (2 ^ 8)))
    (rw three at (div-add-mod' (n / 2 ^ 16) (2 ^ 8))))

-- two words of a long number
pub spelt_halves : (n : ℕ) → n < 2 ^ 64 → spelt (n / 2 ^ 32) * 2 ^ 32 + spelt (n % 2 ^ 32) ≡ n
spelt_halves n h =
    let high : _ = spelt_word (n / 2 ^ 32) (omega arith) in
    let low : _ = spelt_word (n % 2 ^ 32) (omega arith) in
    rw (high, low) (omega arith)

-- ---- bytes of a word that bytes spell

pub bytes32-from_bytes :
    (a b c e : ℕ) → a < 2 ^ 8 → b < 2 ^ 8 → c < 2 ^ 8 → e < 2 ^ 8 → bytes32 (from_bytes a b c e) ≡ a ∷ b ∷ c ∷ e ∷ []
bytes32-from_bytes a b c e ha hb hc he =
    let first : from_bytes a b c e / 2 ^ 24 % 2 ^ 8 ≡ a = omega arith in
    let second : from_bytes a b c e / 2 ^ 16 % 2 ^ 8 ≡ b = omega arith in
    let third : from_bytes a b c e / 2 ^ 8 % 2 ^ 8 ≡ c = omega arith in
    let fourth : from_bytes a b c e % 2 ^ 8 ≡ e = omega arith in
    cc

-- ---- part

pub part_four :
    (d : List ℕ) (at : ℕ) → at + 4 ≤ length d
    → part d at 4 ≡ byte d at ∷ byte d (at + 1) ∷ byte d (at + 2) ∷ byte d (at + 3) ∷ []
part_four d at h =
    rw (
      drop-cons d at 0 (omega arith),
      drop-cons d (suc at) 0 (omega arith),
      drop-cons d (suc (suc at)) 0 (omega arith),
      drop-cons d (suc (suc (suc at))) 0 (omega arith),
      add-one at,
      add-two at,
      add-three at,
    )

pub part_word : (d : List ℕ) (at : ℕ) → AreBytes d → at + 4 ≤ length d → bytes32 (be32 d at) ≡ part d at 4
unfolding be32
part_word d at h l =
    bytes32-from_bytes (byte d at) (byte d (at + 1)) (byte d (at + 2)) (byte d (at + 3))
    (h at) (h (at + 1)) (h (at + 2)) (h (at + 3))
    ∙ sym (part_four d at l)

pub part-append : (d : List ℕ) (at n m : ℕ) → part d at n ++ part d (at + n) m ≡ part d at (n + m)
part-append d at n m =
    ap (λ (r : List ℕ). take n (drop at d) ++ take m r) (sym (drop-drop n at d)) ∙ sym (take-add n m (drop at d))

-- ---- words of a datagram, one behind the other

abbrev pub words_at : List ℕ → ℕ → ℕ → List ℕ
words_at d at zero = []
words_at d at (suc n) = be32 d at ∷ words_at d (at + 4) n

pub words_part :
    (d : List ℕ) (at n : ℕ) → AreBytes d → at + 4 * n ≤ length d → flat bytes32 (words_at d at n) ≡ part d at (4 * n)
words_part d at zero h l = refl
words_part d at (suc n) h l =
    let four : 4 + 4 * n ≡ 4 * suc n = omega arith in
    ap (λ (r : List ℕ). r ++ flat bytes32 (words_at d (at + 4) n)) (part_word d at h (omega arith))
    ∙ ap (λ (r : List ℕ). part d at 4 ++ r) (words_part d (at + 4) n h (omega arith))
    ∙ part-append d at 4 (4 * n)
    ∙ ap (part d at) four

-- the two words of a long number
pub be64_high : (d : List ℕ) (at : ℕ) → AreBytes d → be64 d at / 2 ^ 32 ≡ be32 d at
unfolding be64
be64_high d at h = omega (arith, be32_bound d (at + 4) h)

pub be64_low : (d : List ℕ) (at : ℕ) → AreBytes d → be64 d at % 2 ^ 32 ≡ be32 d (at + 4)
unfolding be64
be64_low d at h = omega (arith, be32_bound d (at + 4) h)
