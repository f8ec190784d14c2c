-- Laws of the lists kept by a test and of the test that some element passes: how many they hold, and that a permutation
-- keeps them. By induction on the list or on the permutation, with the test's value as a case.
use Prim.Native.Nat.{suc, ◌≤◌, ◌<◌}
use mathlib.Core.Bool.{Bool, true, false, not, cond, ◌&&◌, ◌||◌, false≢true}
use mathlib.Core.List.Permᴰ
use mathlib.Core.List.{List, [], ◌∷◌, Memᴰ, Permᴰ}
use mathlib.Core.Path.{◌≡◌, refl, sym, ap, ◌∙◌}
use lib.Dec.{eqb}
use lib.ListN.{length}
use native.Mathlib.Omega.{arith}
use borrow.Author.Tests.{ne_eqb}
use Rattle.register.specs.Register.{filter, any}

-- ---- tests

-- no test is both false and true
pub clash : {A : Type 0} → false ≡ true → A
clash e = absurd (false≢true e)

pub or_false : (s t : Bool) → (s || t) ≡ false → (s ≡ false) × (t ≡ false)
or_false true t e = clash (sym e)
or_false false t e = (refl, e)

or_swap : (s t u : Bool) → (s || (t || u)) ≡ (t || (s || u))
or_swap true true u = refl
or_swap true false u = refl
or_swap false t u = refl

-- ---- one element more

pub filter_yes :
    {A : Type 0} (test : A → Bool) (x : A) (xs : List A) → test x ≡ true → filter test (x ∷ xs) ≡ x ∷ filter test xs
unfolding filter
filter_yes test x xs e = ap (λ (t : Bool). cond t (x ∷ filter test xs) (filter test xs)) e

pub filter_no :
    {A : Type 0} (test : A → Bool) (x : A) (xs : List A) → test x ≡ false → filter test (x ∷ xs) ≡ filter test xs
unfolding filter
filter_no test x xs e = ap (λ (t : Bool). cond t (x ∷ filter test xs) (filter test xs)) e

-- ---- permutations

pub length-permuted : {A : Type 0} {xs ys : List A} → Permᴰ xs ys → length xs ≡ length ys
length-permuted Permᴰ.nil = refl
length-permuted (Permᴰ.cons e d) = ap suc (length-permuted d)
length-permuted (Permᴰ.swap e₁ e₂) = refl
length-permuted (Permᴰ.trans d₁ d₂) = length-permuted d₁ ∙ length-permuted d₂

pub any-permuted :
    {A : Type 0} (test : A → Bool) {xs ys : List A} → Permᴰ xs ys → any test xs ≡ any test ys
unfolding any
any-permuted test Permᴰ.nil = refl
any-permuted test (Permᴰ.cons {b = b} {l₁ = l₁} e d) =
    ap (λ x. test x || any test l₁) e ∙ ap (λ (t : Bool). test b || t) (any-permuted test d)
any-permuted test (Permᴰ.swap {a} {b} {a'} {b'} {l} e₁ e₂) =
    rw (e₁, e₂) (or_swap (test b') (test a') (any test l))
any-permuted test (Permᴰ.trans d₁ d₂) = any-permuted test d₁ ∙ any-permuted test d₂

-- an element before two lists, or before neither
cond_cons_permuted :
    {A : Type 0} (t : Bool) (x : A) {xs ys : List A} → Permᴰ xs ys →
    Permᴰ (cond t (x ∷ xs) xs) (cond t (x ∷ ys) ys)
cond_cons_permuted true x d = Permᴰ.cons refl d
cond_cons_permuted false x d = d

cond_swap_permuted :
    {A : Type 0} (s t : Bool) (x y : A) (xs : List A) →
    Permᴰ
    (cond s (x ∷ cond t (y ∷ xs) xs) (cond t (y ∷ xs) xs))
    (cond t (y ∷ cond s (x ∷ xs) xs) (cond s (x ∷ xs) xs))
cond_swap_permuted true true x y xs = Permᴰ.swap refl refl
cond_swap_permuted true false x y xs = Permᴰ.refl (x ∷ xs)
cond_swap_permuted false true x y xs = Permᴰ.refl (y ∷ xs)
cond_swap_permuted false false x y xs = Permᴰ.refl xs

pub filter-permuted :
    {A : Type 0} (test : A → Bool) {xs ys : List A} → Permᴰ xs ys → Permᴰ (filter test xs) (filter test ys)
unfolding filter
filter-permuted test Permᴰ.nil = Permᴰ.nil
filter-permuted test (Permᴰ.cons {b = b} e d) = rw e (cond_cons_permuted (test b) b (filter-permuted test d))
filter-permuted test (Permᴰ.swap {a' = a'} {b' = b'} {l = l} e₁ e₂) =
    rw (e₁, e₂) (cond_swap_permuted (test b') (test a') b' a' (filter test l))
filter-permuted test (Permᴰ.trans d₁ d₂) = Permᴰ.trans (filter-permuted test d₁) (filter-permuted test d₂)

-- one of two lists, by the same test
pub cond-permuted :
    {A : Type 0} (t : Bool) {xs xs' ys ys' : List A} → Permᴰ xs xs' → Permᴰ ys ys' →
    Permᴰ (cond t xs ys) (cond t xs' ys')
cond-permuted true d e = d
cond-permuted false d e = e

-- a permutation of one element at most is the same list
pub short-permuted : {A : Type 0} {xs ys : List A} → Permᴰ xs ys → length xs ≤ 1 → xs ≡ ys
short-permuted Permᴰ.nil h = refl
short-permuted (Permᴰ.cons {a} {b} {l₁} {l₂} e d) h =
    ap (λ x. x ∷ l₁) e ∙ ap (λ xs. b ∷ xs) (short-permuted d (omega arith))
short-permuted (Permᴰ.swap e₁ e₂) h = absurd (omega arith)
short-permuted (Permᴰ.trans d₁ d₂) h =
    short-permuted d₁ h ∙ short-permuted d₂ (omega (arith, length-permuted d₁))

-- ---- where no element passes

pub any-filter :
    {A : Type 0} (test : A → Bool) (xs : List A) → any test xs ≡ false → filter (λ x. not (test x)) xs ≡ xs
unfolding filter any
any-filter test [] e = refl
any-filter test (x ∷ xs) e =
    let both : _ = or_false (test x) (any test xs) e in
    filter_yes (λ y. not (test y)) x xs (ap not both.0) ∙ ap (λ ys. x ∷ ys) (any-filter test xs both.1)

pub filter_none : {A : Type 0} (test : A → Bool) (xs : List A) → any test xs ≡ false → filter test xs ≡ []
unfolding filter any
filter_none test [] e = refl
filter_none test (x ∷ xs) e =
    let both : _ = or_false (test x) (any test xs) e in
    filter_no test x xs both.0 ∙ filter_none test xs both.1

pub any_and_none :
    {A : Type 0} (s t : A → Bool) (xs : List A) → any s xs ≡ false → any (λ x. s x && t x) xs ≡ false
unfolding any
any_and_none s t [] e = refl
any_and_none s t (x ∷ xs) e =
    let both : _ = or_false (s x) (any s xs) e in
    ap (λ (v : Bool). v && t x || any (λ y. s y && t y) xs) both.0 ∙ any_and_none s t xs both.1

-- ---- how many are kept

pub none_kept : {A : Type 0} (test : A → Bool) (xs : List A) → length (filter test xs) ≡ 0 → any test xs ≡ false
unfolding any
none_kept test [] e = refl
none_kept {A} test (x ∷ xs) e = go (test x) refl (none_kept test xs)
  where
    go :
        (t : Bool) → test x ≡ t → (length (filter test xs) ≡ 0 → any test xs ≡ false) → (t || any test xs) ≡ false
    go true q rest = absurd (omega (arith, e, ap length (filter_yes test x xs q)))
    go false q rest = rest (sym (ap length (filter_no test x xs q)) ∙ e)

pub none-length : {A : Type 0} (test : A → Bool) (xs : List A) → eqb (length (filter test xs)) 0 ≡ not (any test xs)
none-length test xs = go (any test xs) refl
  where
    go : (t : Bool) → any test xs ≡ t → eqb (length (filter test xs)) 0 ≡ not (any test xs)
    go true e =
        rw e
        (ne_eqb (length (filter test xs)) 0 (λ none. clash (sym (none_kept test xs none) ∙ e)))
    go false e = rw (e, filter_none test xs e) refl

pub length_filter_≤ : {A : Type 0} (test : A → Bool) (xs : List A) → length (filter test xs) ≤ length xs
unfolding filter
length_filter_≤ test [] = omega arith
length_filter_≤ test (x ∷ xs) = go (test x) (length_filter_≤ test xs)
  where
    go :
        (t : Bool) → length (filter test xs) ≤ length xs →
        length (cond t (x ∷ filter test xs) (filter test xs)) ≤ suc (length xs)
    go true h = omega arith
    go false h = omega arith

-- one element more keeps no fewer
pub length_filter_cons :
    {A : Type 0} (test : A → Bool) (x : A) (xs : List A) → length (filter test xs) ≤ length (filter test (x ∷ xs))
unfolding filter
length_filter_cons test x xs = go (test x)
  where
    go : (t : Bool) → length (filter test xs) ≤ length (cond t (x ∷ filter test xs) (filter test xs))
    go true = omega arith
    go false = omega arith

pub length_filter_filter :
    {A : Type 0} (s t : A → Bool) (xs : List A) → length (filter s (filter t xs)) ≤ length (filter s xs)
unfolding filter
length_filter_filter s t [] = omega arith
length_filter_filter s t (x ∷ xs) = go (s x) (t x) refl (length_filter_filter s t xs)
  where
    go :
        (u v : Bool) → s x ≡ u → length (filter s (filter t xs)) ≤ length (filter s xs) →
        length (filter s (cond v (x ∷ filter t xs) (filter t xs))) ≤ length (cond u (x ∷ filter s xs) (filter s xs))
    go true true e h = omega (arith, ap length (filter_yes s x (filter t xs) e))
    go true false e h = omega arith
    go false true e h = omega (arith, ap length (filter_no s x (filter t xs) e))
    go false false e h = h

-- ---- which are kept

pub filter_cong : {A : Type 0} (s t : A → Bool) (xs : List A) → ((x : A) → s x ≡ t x) → filter s xs ≡ filter t xs
unfolding filter
filter_cong s t [] e = refl
filter_cong s t (x ∷ xs) e =
    ap (λ (u : Bool). cond u (x ∷ filter s xs) (filter s xs)) (e x)
    ∙ ap (λ ys. cond (t x) (x ∷ ys) ys) (filter_cong s t xs e)

pub any_cong :
    {A : Type 0} (s t : A → Bool) (xs : List A) → ((x : A) → Memᴰ x xs → s x ≡ t x) → any s xs ≡ any t xs
unfolding any
any_cong s t [] e = refl
any_cong s t (x ∷ xs) e =
    ap (λ (u : Bool). u || any s xs) (e x (Memᴰ.head refl))
    ∙ ap (λ (u : Bool). t x || u) (any_cong s t xs (λ y m. e y (Memᴰ.tail m)))

-- none passes after those that pass are gone
pub filter_not_none : {A : Type 0} (test : A → Bool) (xs : List A) → filter test (filter (λ x. not (test x)) xs) ≡ []
unfolding filter
filter_not_none test [] = refl
filter_not_none test (x ∷ xs) = go (test x) refl (filter_not_none test xs)
  where
    go :
        (t : Bool) → test x ≡ t → filter test (filter (λ y. not (test y)) xs) ≡ [] →
        filter test (cond (not t) (x ∷ filter (λ y. not (test y)) xs) (filter (λ y. not (test y)) xs)) ≡ []
    go true e rest = rest
    go false e rest = filter_no test x (filter (λ y. not (test y)) xs) e ∙ rest

-- where each passes, all are kept
pub filter-all :
    {A : Type 0} (test : A → Bool) (xs : List A) → ((x : A) → Memᴰ x xs → test x ≡ true) → filter test xs ≡ xs
unfolding filter
filter-all test [] each = refl
filter-all test (x ∷ xs) each =
    filter_yes test x xs (each x (Memᴰ.head refl))
    ∙ ap (λ ys. x ∷ ys) (filter-all test xs (λ y m. each y (Memᴰ.tail m)))

-- what is kept passes, and was there
pub kept_member :
    {A : Type 0} (test : A → Bool) (x : A) (xs : List A) → Memᴰ x (filter test xs) →
    (test x ≡ true) × Memᴰ x xs
unfolding filter
kept_member {A = A} test x [] m = elim m [ ]
kept_member test x (y ∷ ys) m = go (test y) refl m (kept_member test x ys)
  where
    go :
        (t : Bool) → test y ≡ t → Memᴰ x (cond t (y ∷ filter test ys) (filter test ys)) →
        (Memᴰ x (filter test ys) → (test x ≡ true) × Memᴰ x ys) →
        (test x ≡ true) × Memᴰ x (y ∷ ys)
    go true e (Memᴰ.head q) rest = (ap test q ∙ e, Memᴰ.head q)
    go true e (Memᴰ.tail m') rest = let found : _ = rest m' in (found.0, Memᴰ.tail found.1)
    go false e m' rest = let found : _ = rest m' in (found.0, Memᴰ.tail found.1)

-- what passes and is there is kept
pub member_kept :
    {A : Type 0} (test : A → Bool) (x : A) (xs : List A) → test x ≡ true → Memᴰ x xs → Memᴰ x (filter test xs)
unfolding filter
member_kept {A = A} test x [] e x3 = elim x3 [ ]
member_kept test x (y ∷ ys) e (Memᴰ.head q) =
    rw (filter_yes test y ys (ap test (sym q) ∙ e)) (Memᴰ.head q)
member_kept test x (y ∷ ys) e (Memᴰ.tail m) = go (test y) (member_kept test x ys e m)
  where
    go : (t : Bool) → Memᴰ x (filter test ys) → Memᴰ x (cond t (y ∷ filter test ys) (filter test ys))
    go true kept = Memᴰ.tail kept
    go false kept = kept

-- fewer are kept where one does not pass
pub length_filter_< :
    {A : Type 0} (test : A → Bool) (x : A) (xs : List A) → test x ≡ false → Memᴰ x xs →
    length (filter test xs) < length xs
unfolding filter
length_filter_< {A = A} test x [] e x3 = elim x3 [ ]
length_filter_< test x (y ∷ ys) e (Memᴰ.head q) =
    omega (arith, length_filter_≤ test ys, ap length (filter_no test y ys (ap test (sym q) ∙ e)))
length_filter_< test x (y ∷ ys) e (Memᴰ.tail m) = go (test y) (length_filter_< test x ys e m)
  where
    go :
        (t : Bool) → length (filter test ys) < length ys →
        length (cond t (y ∷ filter test ys) (filter test ys)) < suc (length ys)
    go true less = omega arith
    go false less = omega arith

-- ---- two tests, one after the other

filter_both_step :
    {A : Type 0} (s t : A → Bool) (x : A) (xs : List A) (b : Bool) → s x ≡ b →
    filter (λ y. s y && t y) xs ≡ filter t (filter s xs) →
    filter (λ y. s y && t y) (x ∷ xs) ≡ filter t (filter s (x ∷ xs))
unfolding filter
filter_both_step {A} s t x xs true e rest = rw e (ap (λ (ys : List A). cond (t x) (x ∷ ys) ys) rest)
filter_both_step s t x xs false e rest = rw e rest

pub filter_both : {A : Type 0} (s t : A → Bool) (xs : List A) → filter (λ y. s y && t y) xs ≡ filter t (filter s xs)
unfolding filter
filter_both s t [] = refl
filter_both s t (x ∷ xs) = filter_both_step s t x xs (s x) refl (filter_both s t xs)

any_both_step :
    {A : Type 0} (s t : A → Bool) (x : A) (xs : List A) (b : Bool) → s x ≡ b →
    any (λ y. s y && t y) xs ≡ any t (filter s xs) →
    any (λ y. s y && t y) (x ∷ xs) ≡ any t (filter s (x ∷ xs))
unfolding any filter
any_both_step s t x xs true e rest = rw e (ap (λ (b : Bool). t x || b) rest)
any_both_step s t x xs false e rest = rw e rest

pub any_both : {A : Type 0} (s t : A → Bool) (xs : List A) → any (λ y. s y && t y) xs ≡ any t (filter s xs)
unfolding any filter
any_both s t [] = refl
any_both s t (x ∷ xs) = any_both_step s t x xs (s x) refl (any_both s t xs)

-- ---- members

pub member_permuted : {A : Type 0} {x : A} {xs ys : List A} → Permᴰ xs ys → Memᴰ x xs → Memᴰ x ys
member_permuted Permᴰ.nil m = m
member_permuted (Permᴰ.cons e d) (Memᴰ.head q) = Memᴰ.head (q ∙ e)
member_permuted (Permᴰ.cons e d) (Memᴰ.tail m) = Memᴰ.tail (member_permuted d m)
member_permuted (Permᴰ.swap e f) (Memᴰ.head q) = Memᴰ.tail (Memᴰ.head (q ∙ e))
member_permuted (Permᴰ.swap e f) (Memᴰ.tail (Memᴰ.head q)) = Memᴰ.head (q ∙ f)
member_permuted (Permᴰ.swap e f) (Memᴰ.tail (Memᴰ.tail m)) = Memᴰ.tail (Memᴰ.tail m)
member_permuted (Permᴰ.trans d e) m = member_permuted e (member_permuted d m)
