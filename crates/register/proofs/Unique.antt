-- Laws of rows with distinct numbers.
use Prim.Native.Nat.{ℕ}
use mathlib.Core.Bool.{Bool, true, false, not, ◌&&◌, ◌||◌}
use mathlib.Core.List.{◌∷◌, Permᴰ}
use mathlib.Core.Path.{◌≡◌, refl, ap, ◌∙◌}
use lib.ListN.{length}
use native.Mathlib.Omega.{arith}
use borrow.Author.Tests.{eq-eqb}
use Rattle.origin.specs.declared.Origin.{Origin}
use Rattle.origin.specs.Origins.{same_origin}
use Rattle.register.specs.declared.Record.{Record}
use Rattle.register.specs.Register.{Rows, filter, any, has_number, is_held_elsewhere}
use Rattle.register.specs.Promise.{Unique}
use Rattle.register.proofs.Rows.{filter_yes, filter_no, length-permuted, filter-permuted, any-filter}
use Rattle.register.proofs.Rows.{any_and_none, none_kept, length_filter_cons, length_filter_filter}

pub unique-permuted : {rows rows' : Rows} → Permᴰ rows rows' → Unique rows → Unique rows'
unique-permuted d u source = omega (arith, u source, length-permuted (filter-permuted (has_number source) d))

pub unique-filter : (test : Record → Bool) (rows : Rows) → Unique rows → Unique (filter test rows)
unique-filter test rows u source = omega (arith, u source, length_filter_filter (has_number source) test rows)

pub unique-rest : (r : Record) (rows : Rows) → Unique (r ∷ rows) → Unique rows
unique-rest r rows u source = omega (arith, u source, length_filter_cons (has_number source) r rows)

-- the first row's number is in no other
pub none_after :
    (source : ℕ) (r : Record) (rows : Rows) → Unique (r ∷ rows) → has_number source r ≡ true →
    any (has_number source) rows ≡ false
none_after source r rows u e =
    none_kept
    (has_number source)
    rows
    (omega (arith, u source, ap length (filter_yes (has_number source) r rows e)))

pub own-number : (r : Record) → has_number r.source r ≡ true
own-number r = eq-eqb r.source r.source refl

pub unique_tail : (r : Record) (rows : Rows) → Unique (r ∷ rows) → any (has_number r.source) rows ≡ false
unique_tail r rows u = none_after r.source r rows u (own-number r)

pub without_own :
    (r : Record) (rows : Rows) → Unique (r ∷ rows) → filter (λ row. not (has_number r.source row)) (r ∷ rows) ≡ rows
without_own r rows u =
    filter_no (λ row. not (has_number r.source row)) r rows (ap not (own-number r))
    ∙ any-filter (has_number r.source) rows (unique_tail r rows u)

or_none : (s t : Bool) → t ≡ false → (s || t) ≡ s
or_none true t e = refl
or_none false t e = e

pub elsewhere_own :
    (r : Record) (rows : Rows) → Unique (r ∷ rows) → (origin : Origin) →
    is_held_elsewhere (r ∷ rows) r.source origin ≡ not (same_origin r.origin origin)
unfolding any
elsewhere_own r rows u origin =
    or_none
    (has_number r.source r && not (same_origin r.origin origin))
    (is_held_elsewhere rows r.source origin)
    (any_and_none
    (has_number r.source)
    (λ row. not (same_origin row.origin origin))
    rows
    (unique_tail r rows u))
    ∙ ap (λ (t : Bool). t && not (same_origin r.origin origin)) (own-number r)
