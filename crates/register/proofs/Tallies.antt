-- Laws of the tallies that are kept beside the rows: the rows are the plain register's, whatever the tallies are, and a
-- member's tally is its number's.
use Prim.Native.Nat.{ℕ, zero, suc, ◌+◌, ◌≤◌, ◌<◌}
use mathlib.Core.Bool.{Bool, true, false, cond, ◌||◌}
use mathlib.Core.List.Memᴰ
use mathlib.Core.List.{List, [], ◌∷◌, ◌++◌, Memᴰ, Permᴰ}
use mathlib.Core.Logic.{◌↔◌}
use mathlib.Core.Path.{◌≡◌, refl, sym, ap, ap₂, subst, ◌∙◌}
use lib.Dec.{ltb}
use lib.ListN.{length, set}
use native.Mathlib.Omega.{arith}
use borrow.Author.Tests.{eqb-true, eq-eqb, ltb-false, le-ltb}
use Rattle.register.specs.declared.Record.{Record}
use Rattle.register.specs.declared.Member.{Member}
use Rattle.register.specs.declared.Opening.{Opening}
use Rattle.register.specs.Register.{Rows, Call, any, has_number, after, after_all}
use Rattle.register.specs.Tallies.{Members, records_of, tally_limit, raised, tally_in, with_tallies}
use Rattle.register.specs.Tallies.{tally_after, members_after, members_after_all}
use Rattle.register.proofs.Rows.{clash, or_false}
use Rattle.register.proofs.Letter.Lines.{tells_any}

-- ---- rows

pub rows_with : (tally : ℕ → ℕ) (rows : Rows) → records_of (with_tallies tally rows) ≡ rows
unfolding records_of with_tallies
rows_with tally [] = refl
rows_with tally (row ∷ rows) = ap (λ (rest : Rows). row ∷ rest) (rows_with tally rows)

pub rows-after : (o : Opening) (ms : Members) (call : Call) → records_of (members_after o ms call) ≡ after o (records_of ms) call
unfolding members_after
rows-after o ms call = rows_with (tally_after o ms call) (after o (records_of ms) call)

pub rows_after-all :
    (o : Opening) (ms : Members) (calls : List Call) →
    records_of (members_after_all o ms calls) ≡ after_all o (records_of ms) calls
unfolding members_after_all after_all
rows_after-all o ms [] = refl
rows_after-all o ms (call ∷ calls) =
    rows_after-all o (members_after o ms call) calls ∙ ap (λ (rows : Rows). after_all o rows calls) (rows-after o ms call)

pub length-rows : (ms : Members) → length (records_of ms) ≡ length ms
unfolding records_of
length-rows [] = refl
length-rows (m ∷ ms) = ap suc (length-rows ms)

pub rows-set : (ms : Members) (place : ℕ) (m : Member) → records_of (set ms place m) ≡ set (records_of ms) place m.«record»
unfolding records_of
rows-set [] place m = refl
rows-set (first ∷ ms) zero m = refl
rows-set (first ∷ ms) (suc place) m = ap (λ (rows : Rows). first.«record» ∷ rows) (rows-set ms place m)

pub record_member : (m : Member) (ms : Members) → Memᴰ m ms → Memᴰ m.«record» (records_of ms)
unfolding records_of
record_member m [] x' = elim x' [ ]
record_member m (first ∷ ms) (Memᴰ.head q) = Memᴰ.head (ap (λ (x : Member). x.«record») q)
record_member m (first ∷ ms) (Memᴰ.tail z) = Memᴰ.tail (record_member m ms z)

-- calls after calls
pub members-append :
    (o : Opening) (ms : Members) (calls more : List Call) →
    members_after_all o ms (calls ++ more) ≡ members_after_all o (members_after_all o ms calls) more
unfolding members_after_all
members-append o ms [] more = refl
members-append o ms (call ∷ calls) more = members-append o (members_after o ms call) calls more

-- ---- one refusal more

pub raised_below : (n : ℕ) → n < tally_limit → raised n ≡ n + 1
raised_below n h = go (ltb (n + 1) tally_limit) refl
  where
    go : (t : Bool) → ltb (n + 1) tally_limit ≡ t → cond t (n + 1) tally_limit ≡ n + 1
    go true e = refl
    go false e = omega (arith, h, ltb-false (n + 1) tally_limit e)

pub raised_limit : (n : ℕ) → tally_limit ≤ n → n ≤ tally_limit → raised n ≡ n
raised_limit n low high = rw (le-ltb (n + 1) tally_limit (omega (arith, low))) (omega (arith, low, high))

-- ---- a number's tally

-- 0 where no row has it
pub tally_none : (ms : Members) (source : ℕ) → any (has_number source) (records_of ms) ≡ false → tally_in ms source ≡ 0
unfolding tally_in records_of any
tally_none [] source e = refl
tally_none (m ∷ ms) source e =
    let both : _ = or_false (has_number source m.«record») (any (has_number source) (records_of ms)) e in
    rw both.0 (tally_none ms source both.1)

-- the one that is given to its row
pub tally_with :
    (tally : ℕ → ℕ) (rows : Rows) (source : ℕ) → any (has_number source) rows ≡ true →
    tally_in (with_tallies tally rows) source ≡ tally source
unfolding tally_in with_tallies any
tally_with tally [] source e = clash e
tally_with tally (row ∷ rows) source e = go (has_number source row) refl e (tally_with tally rows source)
  where
    go :
        (t : Bool) → has_number source row ≡ t → (t || any (has_number source) rows) ≡ true →
        (any (has_number source) rows ≡ true → tally_in (with_tallies tally rows) source ≡ tally source) →
        cond t (tally row.source) (tally_in (with_tallies tally rows) source) ≡ tally source
    go true here e rest = ap tally (eqb-true row.source source here)
    go false here e rest = rest e

-- ---- members

-- each member is a row with its number's tally
abbrev pub Kept : Members → Type 0
Kept ms =
    (m : Member) →
    Memᴰ m ms ↔ (Memᴰ m.«record» (records_of ms) × (m.tally ≡ tally_in ms m.«record».source))

-- a member of these rows, with the tally that its number is given
abbrev Among : (ℕ → ℕ) → Member → Rows → Type 0
Among tally m rows = Memᴰ m.«record» rows × (m.tally ≡ tally m.«record».source)

member_with :
    (tally : ℕ → ℕ) (rows : Rows) (m : Member) → Memᴰ m (with_tallies tally rows) ↔ Among tally m rows
unfolding with_tallies
member_with tally [] m = (λ z. absurd (Memᴰ.not-nil z), λ both. absurd (Memᴰ.not-nil both.0))
member_with tally (row ∷ rows) m =
    let rest : _ = member_with tally rows m in (there rest, λ both. back rest both.0 both.1)
  where
    there :
        Memᴰ m (with_tallies tally rows) ↔ Among tally m rows → Memᴰ m (with_tallies tally (row ∷ rows)) →
        Among tally m (row ∷ rows)
    there rest (Memᴰ.head q) = (
      Memᴰ.head (ap (λ (x : Member). x.«record») q),
      ap (λ (x : Member). x.tally) q ∙ ap (λ (x : Member). tally x.«record».source) (sym q),
    )
    there rest (Memᴰ.tail z) = let both : _ = rest.0 z in (Memᴰ.tail both.0, both.1)

    back :
        Memᴰ m (with_tallies tally rows) ↔ Among tally m rows → Memᴰ m.«record» (row ∷ rows) →
        m.tally ≡ tally m.«record».source → Memᴰ m (with_tallies tally (row ∷ rows))
    back rest (Memᴰ.head q) e =
        Memᴰ.head
        (ap₂ (λ (x : Record) (n : ℕ). record { «record» = x; tally = n }) q
        (e ∙ ap (λ (x : Record). tally x.source) q))
    back rest (Memᴰ.tail z) e = Memᴰ.tail (rest.1 (z, e))

-- a row's number is some row's
pub number_of_row : (x : Record) (rows : Rows) → Memᴰ x rows → any (has_number x.source) rows ≡ true
number_of_row x rows member = (tells_any (has_number x.source) rows).1 (x, member, eq-eqb x.source x.source refl)

kept_with : (tally : ℕ → ℕ) (rows : Rows) → Kept (with_tallies tally rows)
kept_with tally rows m = rw (rows_with tally rows) (there, back)
  where
    own : Memᴰ m.«record» rows →
        tally_in (with_tallies tally rows) m.«record».source ≡ tally m.«record».source
    own member = tally_with tally rows m.«record».source (number_of_row m.«record» rows member)

    there :
        Memᴰ m (with_tallies tally rows) →
        Memᴰ m.«record» rows × (m.tally ≡ tally_in (with_tallies tally rows) m.«record».source)
    there z = let both : _ = (member_with tally rows m).0 z in (both.0, both.1 ∙ sym (own both.0))

    back :
        Memᴰ m.«record» rows × (m.tally ≡ tally_in (with_tallies tally rows) m.«record».source) →
        Memᴰ m (with_tallies tally rows)
    back both = (member_with tally rows m).1 (both.0, both.1 ∙ own both.0)

-- members with the tallies that their numbers are given
with_rows :
    (tally : ℕ → ℕ) (ms : Members) → ((m : Member) → Memᴰ m ms → m.tally ≡ tally m.«record».source) →
    ms ≡ with_tallies tally (records_of ms)
unfolding records_of with_tallies
with_rows tally [] each = refl
with_rows tally (m ∷ ms) each =
    ap₂ ◌∷◌
    (ap (λ (n : ℕ). record { «record» = m.«record»; tally = n }) (each m (Memᴰ.head refl)))
    (with_rows tally ms (λ x z. each x (Memᴰ.tail z)))

pub with_permuted :
    (tally : ℕ → ℕ) {rows rows' : Rows} → Permᴰ rows rows' →
    Permᴰ (with_tallies tally rows) (with_tallies tally rows')
unfolding with_tallies
with_permuted tally Permᴰ.nil = Permᴰ.nil
with_permuted tally (Permᴰ.cons e d) =
    Permᴰ.cons (ap (λ (x : Record). record { «record» = x; tally = tally x.source }) e) (with_permuted tally d)
with_permuted tally (Permᴰ.swap e f) =
    Permᴰ.swap (ap (λ (x : Record). record { «record» = x; tally = tally x.source }) e)
    (ap (λ (x : Record). record { «record» = x; tally = tally x.source }) f)
with_permuted tally (Permᴰ.trans d e) = Permᴰ.trans (with_permuted tally d) (with_permuted tally e)

-- members whose rows are the same, and whose tallies are those of kept ones, are the same
pub members-permuted :
    (ms kept : Members) → Kept kept → Permᴰ (records_of ms) (records_of kept) →
    ((m : Member) → Memᴰ m ms → m.tally ≡ tally_in kept m.«record».source) → Permᴰ ms kept
members-permuted ms kept own same each =
    let those : ms ≡ with_tallies (tally_in kept) (records_of ms) = with_rows (tally_in kept) ms each in
    let these : kept ≡ with_tallies (tally_in kept) (records_of kept) =
    with_rows (tally_in kept) kept (λ m z. ((own m).0 z).1) in
    subst (λ (xs : Members). Permᴰ xs kept) (sym those)
    (subst (λ (ys : Members). Permᴰ (with_tallies (tally_in kept) (records_of ms)) ys) (sym these)
    (with_permuted (tally_in kept) same))

pub kept_none : Kept []
unfolding records_of
kept_none m = (λ z. absurd (Memᴰ.not-nil z), λ both. absurd (Memᴰ.not-nil both.0))

pub kept_after : (o : Opening) (ms : Members) (call : Call) → Kept (members_after o ms call)
unfolding members_after
kept_after o ms call = kept_with (tally_after o ms call) (after o (records_of ms) call)

pub kept_after_all : (o : Opening) (ms : Members) (calls : List Call) → Kept ms → Kept (members_after_all o ms calls)
unfolding members_after_all
kept_after_all o ms [] kept = kept
kept_after_all o ms (call ∷ calls) kept = kept_after_all o (members_after o ms call) calls (kept_after o ms call)

-- the tally that a call leaves to a row's number
pub tally_after_lem :
    (o : Opening) (ms : Members) (call : Call) (source : ℕ) →
    any (has_number source) (after o (records_of ms) call) ≡ true →
    tally_in (members_after o ms call) source ≡ tally_after o ms call source
unfolding members_after
tally_after_lem o ms call source e = tally_with (tally_after o ms call) (after o (records_of ms) call) source e
