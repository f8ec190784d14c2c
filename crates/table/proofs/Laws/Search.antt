-- Laws of the search for a number's place, step by step: among source numbers, and so among members.
use Prim.Native.Nat.{ℕ, zero, suc, ◌+◌, ◌/◌, ◌≤◌, ◌<◌}
use mathlib.Core.Bool.{Bool, true, false, not, cond, ◌&&◌}
use mathlib.Core.List.{List, [], ◌∷◌}
use mathlib.Core.Path.{◌≡◌, refl, ap, ◌∙◌}
use lib.Dec.{eqb}
use lib.ListN.{length, get_or, set, drop, length-map, drop_of_length-le, get_or-map}
use lib.Seq.{drop-cons, map-set_same}
use native.Mathlib.Numerals.{add-one}
use native.Mathlib.Omega.{arith}
use Rattle.places.specs.Places.{is_free}
use Rattle.register.specs.declared.Member.{Member}
use Rattle.origin.specs.declared.Origin.{Origin}
use Rattle.refusals.specs.Refusals.{other_origin}
use Rattle.register.specs.Register.{Rows, Call, has_number}
use Rattle.register.specs.Tallies.{Members, records_of}
use Rattle.register.proofs.Tallies.{length-rows}
use Rattle.choosing.specs.Marked.{nobody}
use Rattle.table.specs.declared.Table.{Table}
use Rattle.table.specs.Calls.{number_of, refused_by, answered}
use Rattle.table.specs.Members.{place_of, sources_of, place_among, records_in, place_in}

-- whether the word's first place is held, by a member of this number
abbrev pub is_held_by : ℕ → ℕ → ℕ → Bool
is_held_by word number source = not (is_free word) && eqb number source

place_here :
    (source word : ℕ) (numbers : List ℕ) (i : ℕ) → i < length numbers → is_held_by word (get_or numbers i 0) source ≡ true →
    place_among source word (drop i numbers) ≡ 0
unfolding place_among
place_here source word numbers i h e = rw (drop-cons numbers i 0 h, e) refl

place_beyond :
    (source word : ℕ) (numbers : List ℕ) (i : ℕ) → i < length numbers →
    is_held_by word (get_or numbers i 0) source ≡ false →
    place_among source word (drop i numbers) ≡ 1 + place_among source (word / 2) (drop (suc i) numbers)
unfolding place_among
place_beyond source word numbers i h e = rw (drop-cons numbers i 0 h, e) refl

place_end :
    (source word : ℕ) (numbers : List ℕ) (i : ℕ) → length numbers ≤ i → place_among source word (drop i numbers) ≡ 0
unfolding place_among
place_end source word numbers i h = rw (drop_of_length-le numbers h) refl

-- ---- along source numbers

-- what the search keeps: the places passed and the place among the rest make up the place
abbrev pub SearchingAmong : ℕ → ℕ → List ℕ → ℕ → ℕ → Type 0
SearchingAmong source held numbers word i =
    (i ≤ length numbers) × (i + place_among source word (drop i numbers) ≡ place_among source held numbers)

module _
    (source held : ℕ) (numbers : List ℕ) (word i : ℕ) (inv : SearchingAmong source held numbers word i) where
  -- the number is found, or this place is passed
  pub among_found :
      i < length numbers → is_held_by word (get_or numbers i 0) source ≡ true → i ≡ place_among source held numbers
  among_found h e =
      let here : _ = place_here source word numbers i h e in
      omega (arith, here, inv.1)

  pub among_next :
      i < length numbers → is_held_by word (get_or numbers i 0) source ≡ false →
      SearchingAmong source held numbers (word / 2) (i + 1)
  among_next h e =
      let beyond : _ = place_beyond source word numbers i h e in
      let next : _ = ap (λ (k : ℕ). place_among source (word / 2) (drop k numbers)) (add-one i) in
      (omega arith, omega (arith, beyond, next, inv.1))

  -- no place is left
  pub among_none : length numbers ≤ i → i ≡ place_among source held numbers
  among_none h =
      let none : _ = place_end source word numbers i h in
      omega (arith, none, inv.1)

-- ---- along the 64 places of a table

pub sources_long : (ms : Members) → length (sources_of ms) ≡ length ms
sources_long ms = length-map ms (λ (m : Member). m.«record».source)

-- the place among the members' source numbers is the place among the members
pub place_among_lem :
    (source word : ℕ) (ms : Members) → place_among source word (sources_of ms) ≡ place_of source word (records_of ms)
unfolding place_among place_of records_of
place_among_lem source word [] = refl
place_among_lem source word (m ∷ ms) =
    ap (λ (n : ℕ). cond (is_held_by word m.«record».source source) 0 (1 + n)) (place_among_lem source (word / 2) ms)

abbrev pub Searching : ℕ → ℕ → Members → ℕ → ℕ → Type 0
Searching source held ms word i = SearchingAmong source held (sources_of ms) word i

module _
    (source held : ℕ) (ms : Members) (long : length ms ≡ 64) (word i : ℕ) (inv : Searching source held ms word i) where
  long_too : length (sources_of ms) ≡ 64
  long_too = sources_long ms ∙ long

  at_place : {b : Bool} → is_held_by word (get_or ms i nobody).«record».source source ≡ b
      → is_held_by word (get_or (sources_of ms) i 0) source ≡ b
  at_place e =
      ap (λ (n : ℕ). is_held_by word n source) (get_or-map (λ (m : Member). m.«record».source) ms i nobody) ∙ e

  pub search_found :
      i < 64 → is_held_by word (get_or ms i nobody).«record».source source ≡ true → i ≡ place_of source held (records_of ms)
  search_found h e =
      among_found source held (sources_of ms) word i inv (omega (arith, h, long_too)) (at_place e)
      ∙ place_among_lem source held ms

  pub search_next :
      i < 64 → is_held_by word (get_or ms i nobody).«record».source source ≡ false →
      Searching source held ms (word / 2) (i + 1)
  search_next h e = among_next source held (sources_of ms) word i inv (omega (arith, h, long_too)) (at_place e)

  pub search_none : 64 ≤ i → i ≡ place_of source held (records_of ms)
  search_none h =
      among_none source held (sources_of ms) word i inv (omega (arith, h, long_too)) ∙ place_among_lem source held ms

-- where no member has the number, the place is behind the last
place_of_within : (source word : ℕ) (ms : Rows) → place_of source word ms ≤ length ms
unfolding place_of
place_of_within source word [] = omega arith
place_of_within source word (m ∷ ms) =
    go (not (is_free word) && has_number source m) (place_of_within source (word / 2) ms)
  where
    go : (b : Bool) {n : ℕ} → n ≤ length ms → cond b 0 (1 + n) ≤ suc (length ms)
    go true h = omega arith
    go false h = omega arith

pub place_within : (t : Table) (source : ℕ) → length t.members ≡ 64 → place_in t source ≤ 64
place_within t source long =
    omega (arith, place_of_within source t.held (records_in t), length-rows t.members, long)

-- ---- the members' source numbers

pub sources_set :
    (ms : Members) (place : ℕ) (m : Member)
    → sources_of (set ms place m) ≡ set (sources_of ms) place m.«record».source
sources_set [] place m = refl
sources_set (first ∷ ms) zero m = refl
sources_set (first ∷ ms) (suc place) m =
    ap (λ (numbers : List ℕ). first.«record».source ∷ numbers) (sources_set ms place m)

-- a farewell leaves each where it stands
module _ (t : Table) (source : ℕ) (origin : Origin) where
  abbrev leaving : Call
  leaving = Call.farewell source origin

  pub sources_after_farewell : sources_of (answered t leaving).table.members ≡ sources_of t.members
  unfolding answered refused_by
  sources_after_farewell = go (eqb (number_of t leaving) 0) refl (eqb (number_of t leaving) other_origin) refl
    where
      go :
          (a : Bool) → eqb (number_of t leaving) 0 ≡ a → (b : Bool) → eqb (number_of t leaving) other_origin ≡ b
          → sources_of (answered t leaving).table.members ≡ sources_of t.members
      go true a b f = rw a refl
      go false a true f =
          rw (a, f) (map-set_same (λ (m : Member). m.«record».source) t.members _ _ nobody refl)
      go false a false f = rw (a, f) refl
