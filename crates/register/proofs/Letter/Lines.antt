-- An answer found by tests in turn means what the lines of the table of refusals say, where each test is true exactly
-- if its line applies.
use Prim.Native.Nat.{ℕ, ◌<◌}
use mathlib.Core.Bool.{Bool, true, false, not, cond, ◌&&◌, ◌||◌, and-eq-true_iff}
use mathlib.Core.List.Memᴰ
use mathlib.Core.List.{List, [], ◌∷◌, ◌++◌, Memᴰ}
use mathlib.Core.Logic.{◌⊎◌, inl, inr, ◌↔◌}
use mathlib.Core.Path.{◌≡◌, refl, sym, ap, ◌∙◌}
use lib.Dec.{ltb, eqb}
use native.Mathlib.Omega.{arith}
use borrow.Author.Tests.{eqb-true, eq-eqb, ltb-true, lt-ltb}
use Rattle.register.specs.Register.{any}
use Rattle.register.specs.Letter.{Line, NoneOf, MeansBehind, Means}
use Rattle.register.proofs.Rows.{clash}

-- ---- a test that is true exactly where a proposition holds

abbrev pub Tells : Bool → Type 0 → Type 0
Tells t P = (t ≡ true) ↔ P

pub tells_equal : (a b : ℕ) → Tells (eqb a b) (a ≡ b)
tells_equal a b = (eqb-true a b, eq-eqb a b)

pub tells_less : (a b : ℕ) → Tells (ltb a b) (a < b)
tells_less a b = (ltb-true a b, lt-ltb a b)

pub tells_none : (n : ℕ) → Tells (eqb n 0) (n < 1)
tells_none n = (λ e. omega (arith, eqb-true n 0 e), λ less. eq-eqb n 0 (omega (arith, less)))

pub tells_not : {P : Type 0} (t : Bool) → Tells t P → Tells (not t) (P → ⊥)
tells_not true e = (λ z. clash z, λ none. absurd (none (e.0 refl)))
tells_not false e = (λ z p. clash (e.1 p), λ none. refl)

pub tells_and : {P Q : Type 0} (s t : Bool) → Tells s P → Tells t Q → Tells (s && t) (P × Q)
tells_and true t e f = (λ z. (e.0 refl, f.0 z), λ both. f.1 both.1)
tells_and false t e f = (λ z. clash z, λ both. e.1 both.0)

pub tells_or : {P Q : Type 0} (s t : Bool) → Tells s P → Tells t Q → Tells (s || t) (P ⊎ Q)
tells_or true t e f = (λ z. inl (e.0 z), λ either. refl)
tells_or {P} {Q} false t e f = (λ z. inr (f.0 z), other)
  where
    other : P ⊎ Q → t ≡ true
    other (inl p) = clash (e.1 p)
    other (inr q) = f.1 q

-- what a test tells is stable
pub stable : {P : Type 0} (t : Bool) → Tells t P → ((P → ⊥) → ⊥) → t ≡ true
stable true tell h = refl
stable false tell h = absurd (h (λ p. clash (tell.1 p)))

pub untold : {P : Type 0} (t : Bool) → Tells t P → (P → ⊥) → t ≡ false
untold true tell h = absurd (h (tell.0 refl))
untold false tell h = refl

-- some element passes
pub tells_any :
    {A : Type 0} (test : A → Bool) (xs : List A) →
    Tells (any test xs) ((x : A) × Memᴰ x xs × (test x ≡ true))
unfolding any
tells_any test [] = (λ z. clash z, λ found. absurd (Memᴰ.not-nil found.1))
tells_any {A} test (y ∷ ys) = go (test y) refl (tells_any test ys)
  where
    go :
        (t : Bool) → test y ≡ t → Tells (any test ys) ((x : A) × Memᴰ x ys × (test x ≡ true)) →
        Tells (t || any test ys) ((x : A) × Memᴰ x (y ∷ ys) × (test x ≡ true))
    go true e rest = (λ z. (y, Memᴰ.head refl, e), λ found. refl)
    go false e rest = (
      λ z. let found : _ = rest.0 z in (found.0, Memᴰ.tail found.1, found.2),
      λ found. behind found.0 found.1 found.2,
    )
      where
        behind : (x : A) → Memᴰ x (y ∷ ys) → test x ≡ true → any test ys ≡ true
        behind x (Memᴰ.head q) f = clash (sym e ∙ ap test (sym q) ∙ f)
        behind x (Memᴰ.tail m) f = rest.1 (x, m, f)

-- ---- tests in turn

-- the number of the first line whose test is true
abbrev pub first_number : List Line → List Bool → ℕ
first_number (line ∷ lines) (t ∷ ts) = cond t line.number (first_number lines ts)
first_number [] ts = 0
first_number (line ∷ lines) [] = 0

abbrev pub AllTell : List Line → List Bool → Type 0
AllTell [] [] = Unit
AllTell [] (t ∷ ts) = ⊥
AllTell (line ∷ lines) [] = ⊥
AllTell (line ∷ lines) (t ∷ ts) = Tells t line.Applies × AllTell lines ts

-- a number is neither 0 nor that of a line
abbrev pub is_apart : ℕ → List Line → Bool
is_apart number [] = not (eqb number 0)
is_apart number (line ∷ lines) = not (eqb number line.number) && is_apart number lines

-- the lines' numbers are apart
abbrev pub are_apart : List Line → Bool
are_apart [] = true
are_apart (line ∷ lines) = is_apart line.number lines && are_apart lines

and_true : (s t : Bool) → (s && t) ≡ true → (s ≡ true) × (t ≡ true)
and_true s t e = (and-eq-true_iff s t).0 e

differs : (a b : ℕ) → not (eqb a b) ≡ true → a ≡ b → ⊥
differs a b = (tells_not (eqb a b) (tells_equal a b)).0

-- one line more
none_more : (lines : List Line) (line : Line) → NoneOf (lines ++ (line ∷ [])) ↔ (NoneOf lines × (line.Applies → ⊥))
unfolding NoneOf
none_more [] line = (λ none. (tt, none.0), λ both. (both.1, tt))
none_more (first ∷ lines) line =
    let rest : _ = none_more lines line in (
      λ none. let both : _ = rest.0 none.1 in ((none.0, both.0), both.1),
      λ both. (both.0.0, rest.1 (both.0.1, both.1)),
    )

-- where an earlier line applies, none of these numbers is given
ruled_out :
    (earlier : List Line) → (NoneOf earlier → ⊥) → (number : ℕ) (lines : List Line) → is_apart number lines ≡ true →
    MeansBehind earlier lines number
unfolding MeansBehind
ruled_out earlier never number [] apart = (λ e. absurd (differs number 0 apart e), λ none. absurd (never none))
ruled_out earlier never number (line ∷ lines) apart =
    let both : _ = and_true (not (eqb number line.number)) (is_apart number lines) apart in
    let still : NoneOf (earlier ++ (line ∷ [])) → ⊥ = λ none. never ((none_more earlier line).0 none).0 in (
      (λ e. absurd (differs number line.number both.0 e), λ applies. absurd (never applies.0)),
      ruled_out (earlier ++ (line ∷ [])) still number lines both.1,
    )

first_apart :
    (number : ℕ) (lines : List Line) (ts : List Bool) → AllTell lines ts → is_apart number lines ≡ true →
    first_number lines ts ≡ number → ⊥
first_apart number [] (t ∷ ts) tell apart e = elim tell [ ]
first_apart number (line ∷ lines) [] tell apart e = elim tell [ ]
first_apart number [] [] tell apart e = differs number 0 apart (sym e)
first_apart number (line ∷ lines) (t ∷ ts) tell apart e = go t (first_apart number lines ts tell.1 both.1) e
  where
    both : (not (eqb number line.number) ≡ true) × (is_apart number lines ≡ true)
    both = and_true (not (eqb number line.number)) (is_apart number lines) apart

    go :
        (t : Bool) → (first_number lines ts ≡ number → ⊥) → cond t line.number (first_number lines ts) ≡ number → ⊥
    go true rest e = differs number line.number both.0 (sym e)
    go false rest e = rest e

first_means_behind :
    (earlier : List Line) → NoneOf earlier → (lines : List Line) (ts : List Bool) → AllTell lines ts →
    are_apart lines ≡ true → MeansBehind earlier lines (first_number lines ts)
unfolding MeansBehind
first_means_behind earlier none [] (_ ∷ ts) tell apart = elim tell [ ]
first_means_behind earlier none (line ∷ lines) [] tell apart = elim tell [ ]
first_means_behind earlier none [] [] tell apart = (λ e. none, λ n. refl)
first_means_behind earlier none (line ∷ lines) (true ∷ ts) tell apart =
    let both : _ = and_true (is_apart line.number lines) (are_apart lines) apart in
    let applies : line.Applies = tell.0.0 refl in (
      (λ e. (none, applies), λ n. refl),
      ruled_out (earlier ++ (line ∷ [])) (λ n. ((none_more earlier line).0 n).1 applies) line.number lines both.0,
    )
first_means_behind earlier none (line ∷ lines) (false ∷ ts) tell apart =
    let both : _ = and_true (is_apart line.number lines) (are_apart lines) apart in
    let passed : line.Applies → ⊥ = λ applies. clash (tell.0.1 applies) in (
      (
        λ e. absurd (first_apart line.number lines ts tell.1 both.0 e),
        λ applies. absurd (passed applies.1),
      ),
      first_means_behind (earlier ++ (line ∷ [])) ((none_more earlier line).1 (none, passed)) lines ts tell.1
          both.1,
    )

pub first_means :
    (lines : List Line) (ts : List Bool) → AllTell lines ts → are_apart lines ≡ true → Means lines (first_number lines ts)
unfolding NoneOf
first_means lines ts tell apart = first_means_behind [] tt lines ts tell apart
