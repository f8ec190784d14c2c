-- The register's calls and choosing respect a permutation of rows with distinct numbers: a call asks of the rows only
-- what a permutation keeps, and of the rows chosen any two precede each other, so that there is one at most.
use Prim.Native.Nat.{ℕ, ◌≤◌}
use mathlib.Core.Bool.{Bool, true, false, not, cond, ◌&&◌, and-eq-true_iff}
use mathlib.Core.List.{[], ◌∷◌, Memᴰ, Permᴰ}
use mathlib.Core.Path.{◌≡◌, refl, ap, ◌∙◌}
use lib.Dec.{eqb}
use lib.IntN.{ℤ}
use lib.ListN.{length}
use native.Mathlib.Omega.{arith}
use borrow.Author.Tests.{eqb-true, eq-eqb}
use Rattle.register.specs.declared.Record.{Record}
use Rattle.register.specs.declared.Reading.{Reading}
use Rattle.register.specs.declared.Opening.{Opening}
use Rattle.register.specs.Register.{presents, Rows, Call, filter, any, has_number, is_held_elsewhere}
use Rattle.register.specs.Register.{has_no_room, renewed, report_checks, farewell_checks, answer, fresh_at, accepted}
use Rattle.register.specs.Register.{after}
use Rattle.register.specs.Choosing.{fresh, is_arrival, counted, lateness_of, precedes, precedes_all, first_of, choice}
use Rattle.register.specs.Promise.{Unique}
use Rattle.register.proofs.Order.{precedes_true}
use Rattle.register.proofs.Unique.{unique-permuted, unique-filter, unique-rest, none_after}
use Rattle.register.proofs.Rows.{filter_yes, filter_no, length-permuted, any-permuted, filter-permuted}
use Rattle.register.proofs.Rows.{cond-permuted, short-permuted, any-filter, filter_cong, filter_not_none}
use Rattle.register.proofs.Rows.{filter-all, kept_member}

-- ---- calls

-- the rows of other numbers
abbrev others : Record → Rows → Rows
others x rows = filter (λ row. not (has_number x.source row)) rows

-- the rows that an accepted report leaves are its own before those of other numbers
pub renewed_form :
    (rows : Rows) → Unique rows → (x : Record) →
    Permᴰ (renewed rows x) (x ∷ filter (λ row. not (has_number x.source row)) rows)
unfolding renewed filter
renewed_form [] u x = mathlib.Core.List.Permᴰ.refl (x ∷ [])
renewed_form (r ∷ rows) u x = go (has_number x.source r) refl (renewed_form rows (unique-rest r rows u) x)
  where
    go :
        (t : Bool) → has_number x.source r ≡ t → Permᴰ (renewed rows x) (x ∷ others x rows) →
        Permᴰ (cond t (x ∷ rows) (r ∷ renewed rows x)) (x ∷ cond (not t) (r ∷ others x rows) (others x rows))
    go true e rest =
        rw (any-filter (has_number x.source) rows (none_after x.source r rows u e)) (mathlib.Core.List.Permᴰ.refl (x ∷ rows))
    go false e rest = mathlib.Core.List.Permᴰ.trans (mathlib.Core.List.Permᴰ.cons refl rest) (mathlib.Core.List.Permᴰ.swap refl refl)

pub answer-permuted :
    (o : Opening) (call : Call) {rows rows' : Rows} → Permᴰ rows rows' → answer o rows call ≡ answer o rows' call
unfolding answer
answer-permuted o (Call.report x at) {rows} {rows'} d =
    let held : _ = any-permuted (has_number x.source) d in
    let elsewhere : is_held_elsewhere rows x.source x.origin ≡ is_held_elsewhere rows' x.source x.origin =
    any-permuted _ d in
    let full : has_no_room rows x.source ≡ has_no_room rows' x.source =
    ap (λ (t : Bool). not t && eqb (length rows) 64) held
    ∙ ap (λ (n : ℕ). not (any (has_number x.source) rows') && eqb n 64) (length-permuted d) in
    ap (λ (t : Bool). report_checks o x at t (has_no_room rows x.source)) elsewhere
    ∙ ap (report_checks o x at (is_held_elsewhere rows' x.source x.origin)) full
answer-permuted o (Call.farewell source origin) {rows} {rows'} d =
    ap (λ (t : Bool). farewell_checks t (is_held_elsewhere rows source origin)) (any-permuted (has_number source) d)
    ∙ ap (farewell_checks (any (has_number source) rows')) (any-permuted _ d)
answer-permuted o (Call.sweep at) d = refl

accepted-permuted :
    (o : Opening) (call : Call) {rows rows' : Rows} → Permᴰ rows rows' → Unique rows →
    Permᴰ (accepted o rows call) (accepted o rows' call)
accepted-permuted o (Call.report x at) {rows} {rows'} d u =
    mathlib.Core.List.Permᴰ.trans
    (renewed_form rows u x)
    (mathlib.Core.List.Permᴰ.trans
    (mathlib.Core.List.Permᴰ.cons refl (filter-permuted (λ row. not (has_number x.source row)) d))
    (mathlib.Core.List.Permᴰ.symm (renewed_form rows' (unique-permuted d u) x)))
accepted-permuted o (Call.farewell source origin) d u = filter-permuted (λ row. not (has_number source row)) d
accepted-permuted o (Call.sweep at) d u = filter-permuted (fresh_at o at) d

pub after-permuted :
    (o : Opening) (call : Call) {rows rows' : Rows} → Permᴰ rows rows' → Unique rows →
    Permᴰ (after o rows call) (after o rows' call)
unfolding after
after-permuted o call {rows} {rows'} d u =
    rw (answer-permuted o call d)
    (cond-permuted (eqb (answer o rows' call) 0) (accepted-permuted o call d u) d)

unique_first : (x : Record) (rows : Rows) → Unique rows → Unique (x ∷ others x rows)
unique_first x rows u source = go (has_number source x) refl
  where
    go : (t : Bool) → has_number source x ≡ t → length (filter (has_number source) (x ∷ others x rows)) ≤ 1
    go true e =
        let same : x.source ≡ source = eqb-true x.source source e in
        let none : filter (has_number source) (others x rows) ≡ [] =
        rw (← same) (filter_not_none (has_number x.source) rows) in
        omega (arith, ap length (filter_yes (has_number source) x (others x rows) e), ap length none)
    go false e =
        let short : _ = unique-filter (λ row. not (has_number x.source row)) rows u source in
        omega (arith, short, ap length (filter_no (has_number source) x (others x rows) e))

unique-accepted : (o : Opening) (call : Call) (rows : Rows) → Unique rows → Unique (accepted o rows call)
unique-accepted o (Call.report x at) rows u =
    unique-permuted (mathlib.Core.List.Permᴰ.symm (renewed_form rows u x)) (unique_first x rows u)
unique-accepted o (Call.farewell source origin) rows u = unique-filter (λ row. not (has_number source row)) rows u
unique-accepted o (Call.sweep at) rows u = unique-filter (fresh_at o at) rows u

unique-cond : (t : Bool) (xs ys : Rows) → Unique xs → Unique ys → Unique (cond t xs ys)
unique-cond true xs ys u v = u
unique-cond false xs ys u v = v

pub unique-after : (o : Opening) (call : Call) (rows : Rows) → Unique rows → Unique (after o rows call)
unfolding after
unique-after o call rows u =
    unique-cond (eqb (answer o rows call) 0) (accepted o rows call) rows (unique-accepted o call rows u) u

-- ---- two rows that precede each other have one number

pub precedes_both :
    (late : Record → ℤ) (a b : Record) → precedes late a b ≡ true → precedes late b a ≡ true → a.source ≡ b.source
precedes_both late a b e f =
    let before : _ = precedes_true late a b e in
    let behind : _ = precedes_true late b a f in
    omega (arith, before.1 behind.0, behind.1 before.0)

-- ---- choosing

and_swap : (s t u : Bool) → (s && (t && u)) ≡ (t && (s && u))
and_swap true t u = refl
and_swap false true u = refl
and_swap false false u = refl

pub precedes_all-permuted :
    (late : Record → ℤ) (a : Record) {rows rows' : Rows} → Permᴰ rows rows' →
    precedes_all late a rows ≡ precedes_all late a rows'
unfolding precedes_all
precedes_all-permuted late a mathlib.Core.List.Permᴰ.nil = refl
precedes_all-permuted late a (mathlib.Core.List.Permᴰ.cons {b = y} {l₁ = l₁} e d) =
    ap (λ (x : Record). precedes late a x && precedes_all late a l₁) e
    ∙ ap (λ (t : Bool). precedes late a y && t) (precedes_all-permuted late a d)
precedes_all-permuted late a (mathlib.Core.List.Permᴰ.swap {a' = y} {b' = x} {l = l} e₁ e₂) =
    rw (e₁, e₂) (and_swap (precedes late a x) (precedes late a y) (precedes_all late a l))
precedes_all-permuted late a (mathlib.Core.List.Permᴰ.trans d₁ d₂) =
    precedes_all-permuted late a d₁ ∙ precedes_all-permuted late a d₂

pub precedes_member :
    (late : Record → ℤ) (a b : Record) (rows : Rows) → precedes_all late a rows ≡ true → Memᴰ b rows →
    precedes late a b ≡ true
unfolding precedes_all
precedes_member late a b [] e x'' = elim x'' [ ]
precedes_member late a b (r ∷ rows) e (Memᴰ.head q) =
    ap (precedes late a) q ∙ ((and-eq-true_iff (precedes late a r) (precedes_all late a rows)).0 e).0
precedes_member late a b (r ∷ rows) e (Memᴰ.tail m) =
    precedes_member late a b rows ((and-eq-true_iff (precedes late a r) (precedes_all late a rows)).0 e).1 m

-- rows of one number
one_number_short :
    (rows : Rows) → Unique rows →
    ((a b : Record) → Memᴰ a rows → Memᴰ b rows → b.source ≡ a.source) →
    length rows ≤ 1
one_number_short [] u same = omega arith
one_number_short (a ∷ rows) u same =
    let all : filter (has_number a.source) (a ∷ rows) ≡ a ∷ rows =
    filter-all (has_number a.source) (a ∷ rows)
    (λ b m. eq-eqb b.source a.source (same a b (Memᴰ.head refl) m)) in
    omega (arith, u a.source, ap length all)

-- the rows of a list that precede each of it
abbrev first : (Record → ℤ) → Rows → Rows
first late rows = filter (λ row. precedes_all late row rows) rows

first_short : (late : Record → ℤ) (rows : Rows) → Unique rows → length (first late rows) ≤ 1
first_short late rows u =
    one_number_short
    (first late rows)
    (unique-filter (λ row. precedes_all late row rows) rows u)
    (λ a b m n.
    let foundA : _ = kept_member (λ row. precedes_all late row rows) a rows m in
    let foundB : _ = kept_member (λ row. precedes_all late row rows) b rows n in
    precedes_both late b a
    (precedes_member late b a rows foundB.0 foundA.1)
    (precedes_member late a b rows foundA.0 foundB.1))

first_permuted :
    (late : Record → ℤ) {rows rows' : Rows} → Permᴰ rows rows' → Unique rows → first late rows ≡ first late rows'
first_permuted late {rows} {rows'} d u =
    short-permuted (filter-permuted (λ row. precedes_all late row rows) d) (first_short late rows u)
    ∙ filter_cong
    (λ row. precedes_all late row rows)
    (λ row. precedes_all late row rows')
    rows'
    (λ row. precedes_all-permuted late row d)

pub arrival_permuted :
    (o : Opening) (at : Reading) {rows rows' : Rows} → Permᴰ rows rows' →
    is_arrival o at rows ≡ is_arrival o at rows'
arrival_permuted o at d = ap not (any-permuted presents (filter-permuted (fresh_at o at) d))

pub counted-permuted :
    (o : Opening) (at : Reading) {rows rows' : Rows} → Permᴰ rows rows' →
    Permᴰ (counted o at rows) (counted o at rows')
counted-permuted o at {rows} {rows'} d =
    rw (arrival_permuted o at d)
    (cond-permuted
    (is_arrival o at rows')
    (filter-permuted (fresh_at o at) d)
    (filter-permuted presents (filter-permuted (fresh_at o at) d)))

pub unique-counted : (o : Opening) (at : Reading) (rows : Rows) → Unique rows → Unique (counted o at rows)
unique-counted o at rows u =
    let freshOnes : Unique (fresh o at rows) = unique-filter (fresh_at o at) rows u in
    unique-cond
    (is_arrival o at rows)
    (fresh o at rows)
    (filter presents (fresh o at rows))
    freshOnes
    (unique-filter presents (fresh o at rows) freshOnes)

pub choice-permuted :
    (o : Opening) (at : Reading) {rows rows' : Rows} → Permᴰ rows rows' → Unique rows →
    choice o at rows ≡ choice o at rows'
unfolding choice
choice-permuted o at {rows} {rows'} d u =
    let among : Permᴰ (counted o at rows) (counted o at rows') = counted-permuted o at d in
    let late : Record → ℤ = lateness_of o at in
    ap (λ (n : ℕ). first_of n (first late (counted o at rows))) (length-permuted among)
    ∙ ap (first_of (length (counted o at rows'))) (first_permuted late among (unique-counted o at rows u))
