-- Laws of the members at the places held: what marking and unmarking a place and storing at it do to them. The word is
-- halved along the list, so each law is an induction over the places.
use Prim.Native.Nat.{ℕ, zero, suc, ◌+◌, ◌-◌, ◌/◌, ◌%◌, ◌^◌, ◌≤◌, ◌<◌}
use mathlib.Core.Bool.{Bool, true, false, not, cond, ◌&&◌, ◌||◌}
use mathlib.Core.List.Memᴰ
use mathlib.Core.List.{List, [], ◌∷◌, Memᴰ, Permᴰ}
use mathlib.Core.List.Permᴰ
use mathlib.Core.Path.{◌≡◌, refl, sym, ap, ◌∙◌}
use lib.ListN.{length, get_or, set}
use native.Mathlib.Omega.{arith}
use borrow.Author.Tests.{eqb-true, ne_eqb, not-true, not-false}
use Rattle.places.specs.Places.{is_free, is_held, with_place, without_place}
use Rattle.places.proofs.Laws.Bits.{held_first, held_next, held_apart, added_lowest, added_half}
use Rattle.places.proofs.Laws.Bits.{with_free, without_held}
use Rattle.register.specs.declared.Record.{Record}
use Rattle.register.specs.Register.{Rows, any, has_number}
use Rattle.register.specs.Promise.{Unique}
use Rattle.register.proofs.Unique.{unique-rest}
use Rattle.register.proofs.Letter.Members.{alone}
use Rattle.choosing.specs.Marked.{nowhere, marked_at}
use Rattle.choosing.proofs.Laws.Marked.{marked_free, marked_held}
use Rattle.table.specs.Members.{place_of}

-- ---- one place more

pub marked_none : {A : Type 0} (ms : List A) → marked_at 0 ms ≡ []
unfolding marked_at
marked_none [] = refl
marked_none (m ∷ ms) = marked_none ms

-- ---- a free place is taken

pub permuted_by : {A : Type 0} {xs xs' ys ys' : List A} → xs ≡ xs' → ys ≡ ys' → Permᴰ xs' ys' → Permᴰ xs ys
permuted_by e f p = rw (e, f) p

insert_step :
    {A : Type 0} (word place : ℕ) (m : A) (ms : List A) (x : A) → (t : Bool) → is_free word ≡ t →
    Permᴰ (marked_at (word / 2 + 2 ^ place) (set ms place x)) (x ∷ marked_at (word / 2) ms) →
    Permᴰ (marked_at (word + 2 ^ suc place) (m ∷ set ms place x)) (x ∷ marked_at word (m ∷ ms))
insert_step {A} word place m ms x true e rest =
    permuted_by
    (marked_free (word + 2 ^ suc place) m (set ms place x) (added_lowest word place ∙ e)
    ∙ ap (λ (w : ℕ). marked_at w (set ms place x)) (added_half word place))
    (ap (λ (rows : List A). x ∷ rows) (marked_free word m ms e))
    rest
insert_step {A} word place m ms x false e rest =
    permuted_by
    (marked_held (word + 2 ^ suc place) m (set ms place x) (added_lowest word place ∙ e)
    ∙ ap (λ (w : ℕ). m ∷ marked_at w (set ms place x)) (added_half word place))
    (ap (λ (rows : List A). x ∷ rows) (marked_held word m ms e))
    (Permᴰ.trans (Permᴰ.cons refl rest) (Permᴰ.swap refl refl))

insert_here :
    {A : Type 0} (word : ℕ) (m : A) (ms : List A) (x : A) → is_free word ≡ true →
    Permᴰ (marked_at (word + 1) (x ∷ ms)) (x ∷ marked_at word (m ∷ ms))
insert_here {A} word m ms x e =
    let even : word % 2 ≡ 0 = eqb-true (word % 2) 0 e in
    let odd : is_free (word + 1) ≡ false = ne_eqb ((word + 1) % 2) 0 (λ z. omega (arith, z, even)) in
    let half : (word + 1) / 2 ≡ word / 2 = omega (arith, even) in
    permuted_by
    (marked_held (word + 1) x ms odd ∙ ap (λ (w : ℕ). x ∷ marked_at w ms) half)
    (ap (λ (rows : List A). x ∷ rows) (marked_free word m ms e))
    (Permᴰ.refl (x ∷ marked_at (word / 2) ms))

marked_insert :
    {A : Type 0} (word place : ℕ) (ms : List A) (x : A) → is_held place word ≡ false → place < length ms →
    Permᴰ (marked_at (word + 2 ^ place) (set ms place x)) (x ∷ marked_at word ms)
marked_insert word place [] x free h = absurd (omega arith)
marked_insert word zero (m ∷ ms) x free h =
    insert_here word m ms x (not-false (is_free word) (sym (held_first word) ∙ free))
marked_insert word (suc place) (m ∷ ms) x free h =
    insert_step word place m ms x (is_free word) refl
    (marked_insert (word / 2) place ms x (sym (held_next place word) ∙ free) (omega arith))

-- a free place that is marked and stored at adds one
pub marked_with :
    {A : Type 0} (word place : ℕ) (ms : List A) (x : A) → is_held place word ≡ false → place < length ms → place < 64 →
    Permᴰ (marked_at (with_place word place) (set ms place x)) (x ∷ marked_at word ms)
marked_with word place ms x free h below =
    permuted_by (ap (λ (w : ℕ). marked_at w (set ms place x)) (with_free word place below free)) refl
    (marked_insert word place ms x free h)

-- ---- a held place is renewed, or freed

-- storing at a held place puts one in the other's stead
pub marked_renew :
    {A : Type 0} (word place : ℕ) (ms : List A) (x : A) → is_held place word ≡ true → place < length ms → place < 64 →
    Permᴰ (marked_at word (set ms place x)) (x ∷ marked_at (without_place word place) ms)
marked_renew word place ms x held h below =
    let apart : _ = held_apart place word held in
    let whole : word ≡ word - 2 ^ place + 2 ^ place = omega (arith, apart.0) in
    permuted_by (ap (λ (w : ℕ). marked_at w (set ms place x)) whole)
    (ap (λ (w : ℕ). x ∷ marked_at w ms) (without_held word place below held))
    (marked_insert (word - 2 ^ place) place ms x apart.1 h)

pub set_same : {A : Type 0} (ms : List A) (place : ℕ) (d : A) → set ms place (get_or ms place d) ≡ ms
set_same [] place d = refl
set_same (m ∷ ms) zero d = refl
set_same {A} (m ∷ ms) (suc place) d = ap (λ (rows : List A). m ∷ rows) (set_same ms place d)

-- what stands at a held place, and the others
pub marked_own :
    {A : Type 0} (word place : ℕ) (ms : List A) (d : A) → is_held place word ≡ true → place < length ms → place < 64 →
    Permᴰ (marked_at word ms) (get_or ms place d ∷ marked_at (without_place word place) ms)
marked_own word place ms d held h below =
    permuted_by (ap (marked_at word) (sym (set_same ms place d))) refl
    (marked_renew word place ms (get_or ms place d) held h below)

-- ---- a number's place

-- what the place of a number is: behind the last where no row has the number, and else held by a member with it
abbrev pub FoundAt : ℕ → ℕ → Rows → ℕ → Type 0
FoundAt source word ms place =
    (place ≤ length ms)
    × (place < length ms → (is_held place word ≡ true) × (has_number source (get_or ms place nowhere) ≡ true))
    × (length ms ≤ place → any (has_number source) (marked_at word ms) ≡ false)

found_on :
    (source word place : ℕ) (m : Record) (ms : Rows) →
    any (has_number source) (marked_at word (m ∷ ms)) ≡ any (has_number source) (marked_at (word / 2) ms) →
    FoundAt source (word / 2) ms place → FoundAt source word (m ∷ ms) (1 + place)
found_on source word place m ms same rest =
    let next : 1 + place ≡ suc place = omega arith in
    rw (next, held_next place word)
    (omega (arith, rest.0), (λ h. rest.1 (omega arith)), (λ h. same ∙ rest.2 (omega arith)))

place-step :
    (source word : ℕ) (m : Record) (ms : Rows) → (s t : Bool) → is_free word ≡ s → has_number source m ≡ t →
    FoundAt source (word / 2) ms (place_of source (word / 2) ms) →
    FoundAt source word (m ∷ ms) (cond (not s && t) 0 (1 + place_of source (word / 2) ms))
unfolding any
place-step source word m ms true t e f rest =
    found_on source word (place_of source (word / 2) ms) m ms (ap (any (has_number source)) (marked_free word m ms e))
    rest
place-step source word m ms false true e f rest =
    (omega arith, (λ h. (held_first word ∙ ap not e, f)), (λ h. absurd (omega arith)))
place-step source word m ms false false e f rest =
    found_on source word (place_of source (word / 2) ms) m ms
    (ap (any (has_number source)) (marked_held word m ms e)
    ∙ ap (λ (b : Bool). b || any (has_number source) (marked_at (word / 2) ms)) f)
    rest

pub place_found : (source word : ℕ) (ms : Rows) → FoundAt source word ms (place_of source word ms)
unfolding place_of any marked_at
place_found source word [] = (omega arith, (λ h. absurd (omega arith)), (λ h. refl))
place_found source word (m ∷ ms) =
    place-step source word m ms (is_free word) (has_number source m) refl refl (place_found source (word / 2) ms)

-- ---- a row and its place

member_step :
    {A : Type 0} (word : ℕ) (m row : A) (ms : List A) → (s : Bool) → is_free word ≡ s →
    Memᴰ row (marked_at (word / 2) ms) →
    Memᴰ row (marked_at word (m ∷ ms))
member_step word m row ms true e rest = rw (marked_free word m ms e) rest
member_step word m row ms false e rest = rw (marked_held word m ms e) (Memᴰ.tail rest)

-- what stands at a held place is among those marked
pub member_at_place :
    {A : Type 0} (word place : ℕ) (ms : List A) (d : A) → is_held place word ≡ true → place < length ms →
    Memᴰ (get_or ms place d) (marked_at word ms)
member_at_place word place [] d held h = absurd (omega arith)
member_at_place word zero (m ∷ ms) d held h =
    rw (marked_held word m ms (not-true (is_free word) (sym (held_first word) ∙ held))) (Memᴰ.head refl)
member_at_place word (suc place) (m ∷ ms) d held h =
    member_step word m (get_or ms place d) ms (is_free word) refl
    (member_at_place (word / 2) place ms d (sym (held_next place word) ∙ held) (omega arith))

-- a place where a row or a member is held
pub record At {A : Type 0} (row : A) (word : ℕ) (ms : List A) (d : A) : Type 0 where
  pub place : ℕ
  pub within : place < length ms
  pub held : is_held place word ≡ true
  pub row_is : get_or ms place d ≡ row

at_next : {A : Type 0} (row m : A) (word : ℕ) (ms : List A) (d : A) → At row (word / 2) ms d → At row word (m ∷ ms) d
at_next row m word ms d a =
    record {
      place = suc a.place;
      within = omega (arith, a.within);
      held = held_next a.place word ∙ a.held;
      row_is = a.row_is;
    }

at_first :
    {A : Type 0} (row m : A) (word : ℕ) (ms : List A) (d : A) → is_free word ≡ false →
    (Memᴰ row (marked_at (word / 2) ms) → At row (word / 2) ms d) →
    Memᴰ row (m ∷ marked_at (word / 2) ms) → At row word (m ∷ ms) d
at_first row m word ms d e rest (Memᴰ.head q) =
    record { place = 0; within = omega arith; held = held_first word ∙ ap not e; row_is = sym q }
at_first row m word ms d e rest (Memᴰ.tail member) = at_next row m word ms d (rest member)

at-step :
    {A : Type 0} (row m : A) (word : ℕ) (ms : List A) (d : A) → (s : Bool) → is_free word ≡ s →
    (Memᴰ row (marked_at (word / 2) ms) → At row (word / 2) ms d) →
    Memᴰ row (marked_at word (m ∷ ms)) → At row word (m ∷ ms) d
at-step row m word ms d true e rest member = at_next row m word ms d (rest (rw (marked_free word m ms e) at member))
at-step row m word ms d false e rest member = at_first row m word ms d e rest (rw (marked_held word m ms e) at member)

-- each that is marked has a place
pub place_of_member :
    {A : Type 0} (row : A) (word : ℕ) (ms : List A) (d : A) → Memᴰ row (marked_at word ms) → At row word ms d
unfolding marked_at
place_of_member row word [] d member = absurd (Memᴰ.not-nil member)
place_of_member row word (m ∷ ms) d member =
    at-step row m word ms d (is_free word) refl (place_of_member row (word / 2) ms d) member

-- where numbers are distinct, a number stands at one place held
unique-behind : (word : ℕ) (m : Record) (ms : Rows) → Unique (marked_at word (m ∷ ms)) → Unique (marked_at (word / 2) ms)
unique-behind word m ms u = go (is_free word) refl
  where
    go : (b : Bool) → is_free word ≡ b → Unique (marked_at (word / 2) ms)
    go true e = rw (marked_free word m ms e) at u
    go false e = unique-rest m (marked_at (word / 2) ms) (rw (marked_held word m ms e) at u)

-- the number of the first place, if that is held, is at no place behind
first_once :
    (word : ℕ) (m : Record) (ms : Rows) → Unique (marked_at word (m ∷ ms)) → (place : ℕ) → is_held 0 word ≡ true →
    is_held (suc place) word ≡ true → place < length ms → (get_or ms place nowhere).source ≡ m.source → ⊥
first_once word m ms u place first held h same =
    let rows : _ = marked_held word m ms (not-true (is_free word) (sym (held_first word) ∙ first)) in
    alone m (get_or ms place nowhere) (marked_at (word / 2) ms) (rw rows at u)
    (member_at_place (word / 2) place ms nowhere (sym (held_next place word) ∙ held) h) same

pub place-once :
    (word : ℕ) (ms : Rows) → Unique (marked_at word ms) → (p q : ℕ) → is_held p word ≡ true → is_held q word ≡ true →
    p < length ms → q < length ms → (get_or ms p nowhere).source ≡ (get_or ms q nowhere).source → p ≡ q
place-once word [] u p q a b h k same = absurd (omega arith)
place-once word (m ∷ ms) u zero zero a b h k same = refl
place-once word (m ∷ ms) u zero (suc q) a b h k same = absurd (first_once word m ms u q a b (omega arith) (sym same))
place-once word (m ∷ ms) u (suc p) zero a b h k same = absurd (first_once word m ms u p b a (omega arith) same)
place-once word (m ∷ ms) u (suc p) (suc q) a b h k same =
    ap suc
    (place-once (word / 2) ms (unique-behind word m ms u) p q (sym (held_next p word) ∙ a) (sym (held_next q word) ∙ b)
    (omega arith) (omega arith) same)
