-- The walk `latest` gives the row that is chosen: a row that another precedes changes neither who precedes all, nor the
-- first of those.
use Prim.Native.Nat.{ℕ}
use mathlib.Core.Bool.{Bool, true, false, cond, ◌&&◌, and-eq-true_iff, and-false}
use mathlib.Core.List.{[], ◌∷◌}
use mathlib.Core.Path.{◌≡◌, refl, sym, ap, ◌∙◌}
use lib.IntN.{ℤ}
use Rattle.std.specs.Prelude.{Result}
use Rattle.refusals.specs.declared.RefusalNumber.{RefusalNumber}
use Rattle.register.specs.declared.Record.{Record}
use Rattle.register.specs.declared.Target.{Target}
use Rattle.register.specs.Register.{Rows, filter}
use Rattle.register.specs.Choosing.{precedes, precedes_all, first_of, target_of}
use Rattle.choosing.specs.Latest.{latest}
use Rattle.register.proofs.Rows.{clash, filter_no, filter_cong}
use Rattle.register.proofs.Order.{precedes_refl, precedes_trans, precedes_total, precedes_all_trans}

-- ---- tests that agree

-- a test that another one implies adds nothing to it
and_implied : (s t u : Bool) → (s ≡ true → t ≡ true) → (s && (t && u)) ≡ (s && u)
and_implied true t u h = rw (h refl) refl
and_implied false t u h = refl

implied_and : (s t u : Bool) → (t ≡ true → s ≡ true) → (s && (t && u)) ≡ (t && u)
implied_and s true u h = rw (h refl) refl
implied_and s false u h = and-false s

-- ---- the rows that precede all

-- beside a row that precedes it, a row changes no test: skipped behind that row, or dropped before it
precedes_all_skip :
    (late : Record → ℤ) (a b : Record) (rows : Rows) → precedes late a b ≡ true →
    (row : Record) → precedes_all late row (a ∷ b ∷ rows) ≡ precedes_all late row (a ∷ rows)
unfolding precedes_all
precedes_all_skip late a b rows e row =
    and_implied (precedes late row a) (precedes late row b) (precedes_all late row rows)
    (λ h. precedes_trans late row a b h e)

precedes_all-drop :
    (late : Record → ℤ) (a b : Record) (rows : Rows) → precedes late b a ≡ true →
    (row : Record) → precedes_all late row (a ∷ b ∷ rows) ≡ precedes_all late row (b ∷ rows)
unfolding precedes_all
precedes_all-drop late a b rows e row =
    implied_and (precedes late row a) (precedes late row b) (precedes_all late row rows)
    (λ h. precedes_trans late row b a h e)

-- ---- the first of them

-- a second row that passes only where the first does is never the first kept
first_skip :
    (n : ℕ) (test : Record → Bool) (a b : Record) (rows : Rows) → (test b ≡ true → test a ≡ true) →
    first_of n (filter test (a ∷ b ∷ rows)) ≡ first_of n (filter test (a ∷ rows))
unfolding filter
first_skip n test a b rows implies = go (test a) refl (test b) refl
  where
    go :
        (s : Bool) → test a ≡ s → (t : Bool) → test b ≡ t →
        first_of n (filter test (a ∷ b ∷ rows)) ≡ first_of n (filter test (a ∷ rows))
    go true p t q = rw p refl
    go false p true q = clash (sym p ∙ implies q)
    go false p false q = rw (p, q) refl

-- the first row, in order, of those that precede all
abbrev first_of_all : (Record → ℤ) → ℕ → Rows → Result Target RefusalNumber
first_of_all late n rows = first_of n (filter (λ row. precedes_all late row rows) rows)

first_of_one :
    (late : Record → ℤ) (n : ℕ) (a : Record) →
    first_of_all late n (a ∷ []) ≡ target_of a n
unfolding filter precedes_all
first_of_one late n a = rw (precedes_refl late a) refl

first_of_preceded :
    (late : Record → ℤ) (n : ℕ) (a b : Record) (rows : Rows) → precedes late a b ≡ true →
    first_of_all late n (a ∷ b ∷ rows) ≡ first_of_all late n (a ∷ rows)
unfolding precedes_all
first_of_preceded late n a b rows e =
    ap (first_of n)
    (filter_cong (λ row. precedes_all late row (a ∷ b ∷ rows)) (λ row. precedes_all late row (a ∷ rows)) (a ∷ b ∷ rows)
    (precedes_all_skip late a b rows e))
    ∙ first_skip n (λ row. precedes_all late row (a ∷ rows)) a b rows
    (λ h.
    rw (precedes_refl late a)
    (precedes_all_trans late a b rows e
    ((and-eq-true_iff (precedes late b a) (precedes_all late b rows)).0 h).1))

first_of_preceding :
    (late : Record → ℤ) (n : ℕ) (a b : Record) (rows : Rows) → precedes late a b ≡ false →
    first_of_all late n (a ∷ b ∷ rows) ≡ first_of_all late n (b ∷ rows)
unfolding precedes_all
first_of_preceding late n a b rows e =
    ap (first_of n)
    (filter_no (λ row. precedes_all late row (a ∷ b ∷ rows)) a (b ∷ rows) (rw (e, precedes_refl late a) refl)
    ∙ filter_cong (λ row. precedes_all late row (a ∷ b ∷ rows)) (λ row. precedes_all late row (b ∷ rows)) (b ∷ rows)
    (precedes_all-drop late a b rows (precedes_total late a b e)))

-- ---- latest

pub latest-cons :
    (late : Record → ℤ) (a b : Record) (rows : Rows) (t : Bool) → precedes late a b ≡ t →
    latest late a (b ∷ rows) ≡ latest late (cond t a b) rows
unfolding latest
latest-cons late a b rows t e = ap (λ (t : Bool). latest late (cond t a b) rows) e

chosen-step :
    (late : Record → ℤ) (n : ℕ) (a b : Record) (rows : Rows) →
    ((c : Record) → first_of_all late n (c ∷ rows) ≡ target_of (latest late c rows) n) →
    first_of_all late n (a ∷ b ∷ rows) ≡ target_of (latest late a (b ∷ rows)) n
chosen-step late n a b rows rest = go (precedes late a b) refl
  where
    go :
        (t : Bool) → precedes late a b ≡ t →
        first_of_all late n (a ∷ b ∷ rows) ≡ target_of (latest late a (b ∷ rows)) n
    go true e = first_of_preceded late n a b rows e ∙ rw (latest-cons late a b rows true e) (rest a)
    go false e = first_of_preceding late n a b rows e ∙ rw (latest-cons late a b rows false e) (rest b)

pub latest-chosen :
    (late : Record → ℤ) (n : ℕ) (a : Record) (rows : Rows) →
    first_of n (filter (λ row. precedes_all late row (a ∷ rows)) (a ∷ rows))
    ≡ target_of (latest late a rows) n
unfolding latest
latest-chosen late n a [] = first_of_one late n a
latest-chosen late n a (b ∷ rows) =
    chosen-step late n a b rows (λ c. latest-chosen late n c rows)
