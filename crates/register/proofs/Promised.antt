-- Choosing keeps demand 3's promise on sound rows: the chosen row's lateness is the greatest of the counted rows', and
-- the three times answered give it back.
use Prim.Native.Nat.{ℕ, ◌*◌, ◌^◌, ◌<◌}
use mathlib.Core.Bool.{Bool, true, false, cond, true≢false}
use mathlib.Core.List.Memᴰ
use mathlib.Core.List.{[], ◌∷◌, Memᴰ}
use mathlib.Core.Path.{◌≡◌, refl, sym, ap, subst, ◌∙◌}
use lib.Dec.{eqb, ltb}
use lib.IntN.{ℤ, pos, ◌*ℤ◌, +ℤ_idr}
use lib.ListN.{length}
use lib.Signed.{◌≤ℤ◌}
use native.Mathlib.Omega.{arith}
use borrow.Author.Tests.{not-true}
use Rattle.std.specs.Prelude.{Err}
use Rattle.refusals.specs.declared.RefusalNumber.{RefusalNumber}
use Rattle.times.specs.Times.{difference_mod, delay, expanded, is_badly_presented}
use Rattle.times.proofs.Laws.{expanded_by_delay, delay_bound}
use Rattle.register.specs.declared.Record.{Record}
use Rattle.register.specs.declared.Reading.{Reading}
use Rattle.register.specs.declared.Opening.{Opening}
use Rattle.register.specs.Register.{presents, Rows, filter, any, fresh_at}
use Rattle.register.specs.Choosing.{fresh, is_arrival, counted, lateness_of, precedes, precedes_all, target_of}
use Rattle.register.specs.Choosing.{first_of, choice, delay_between, target_lateness, moment}
use Rattle.register.specs.Promise.{Promised}
use Rattle.register.proofs.Rows.{clash, or_false, none_kept, kept_member, member_kept}
use Rattle.register.proofs.Letter.Lines.{tells_any, untold}
use Rattle.integers.proofs.Laws.{≤ℤ_shift}
use Rattle.register.proofs.Order.{precedes_true, precedes_refl, precedes_total, precedes_all_trans}
use Rattle.register.proofs.Permuted.{precedes_member}
use Rattle.register.proofs.Stands.{SoundRow, Sound}

-- ---- rows counted

-- counted is empty exactly where no row is fresh
pub counted_none_fresh : (o : Opening) (at : Reading) (rows : Rows) → counted o at rows ≡ [] → fresh o at rows ≡ []
counted_none_fresh o at rows e = go (is_arrival o at rows) refl
  where
    go : (t : Bool) → is_arrival o at rows ≡ t → fresh o at rows ≡ []
    go true p = rw p at e
    go false p =
        let none : _ = none_kept presents (fresh o at rows) (ap length (rw p at e)) in
        absurd (true≢false (rw none at p))

pub fresh-none_counted : (o : Opening) (at : Reading) (rows : Rows) → fresh o at rows ≡ [] → counted o at rows ≡ []
unfolding filter any
fresh-none_counted o at rows e = rw e refl

-- a counted row is fresh, and one of the rows
pub counted_member :
    (o : Opening) (at : Reading) (rows : Rows) (row : Record) → Memᴰ row (counted o at rows) →
    (fresh_at o at row ≡ true) × Memᴰ row rows
counted_member o at rows row member = go (is_arrival o at rows) refl
  where
    go : (t : Bool) → is_arrival o at rows ≡ t → (fresh_at o at row ≡ true) × Memᴰ row rows
    go true e = kept_member (fresh_at o at) row rows (rw e at member)
    go false e =
        let kept : _ = kept_member presents row (fresh o at rows) (rw e at member) in
        kept_member (fresh_at o at) row rows kept.1

-- in arrival mode no counted row has P 1, otherwise each has
pub arrival_presents :
    (o : Opening) (at : Reading) (rows : Rows) (row : Record) → is_arrival o at rows ≡ true →
    Memᴰ row (counted o at rows) → presents row ≡ false
arrival_presents o at rows row arrival member =
    let none : any presents (fresh o at rows) ≡ false = not-true _ arrival in
    untold (presents row) (λ h. h, λ h. h)
    (λ is. clash (sym none ∙ (tells_any presents (fresh o at rows)).1 (row, rw arrival at member, is)))

pub presentation_presents :
    (o : Opening) (at : Reading) (rows : Rows) (row : Record) → is_arrival o at rows ≡ false →
    Memᴰ row (counted o at rows) → presents row ≡ true
presentation_presents o at rows row presentation member =
    (kept_member presents row (fresh o at rows) (rw presentation at member)).0

-- ---- the answer's lateness

-- the expanded presentation minus received, modulo 2^64, is the delay
pub delay_again :
    (received presented : ℕ) → received < 2 ^ 64 →
    difference_mod 64 (expanded received presented) received ≡ delay received presented
unfolding difference_mod
delay_again received presented small =
    let most : _ = delay_bound received presented in
    rw (expanded_by_delay received presented) (omega arith)

-- with P 0 presented is 0; otherwise check 17 let no expanded presentation of 0 pass
delay-answered :
    (o : Opening) (row : Record) → SoundRow o row → (p : Bool) → presents row ≡ p →
    delay_between row.report.received (cond p (expanded row.report.received row.report.presented) 0)
    ≡ cond p (delay row.report.received row.report.presented) 0
delay-answered o row sound false e = refl
delay-answered o row sound true e =
    let passed : is_badly_presented row.report.received row.report.presented ≡ false =
    rw e at sound.presented in
    let present : eqb (expanded row.report.received row.report.presented) 0 ≡ false =
    (or_false (ltb (30 * 2 ^ 32) (delay row.report.received row.report.presented))
    (eqb (expanded row.report.received row.report.presented) 0) passed).1 in
    rw present (delay_again row.report.received row.report.presented sound.range)

-- ---- the choice

pub choice_of_lem :
    (o : Opening) (at : Reading) (rows those : Rows) → counted o at rows ≡ those →
    choice o at rows
    ≡ first_of (length those)
    (filter (λ row. precedes_all (lateness_of o at) row those) those)
unfolding choice
choice_of_lem o at rows those e =
    ap
    (λ (those : Rows).
    first_of (length those)
    (filter (λ row. precedes_all (lateness_of o at) row those) those))
    e

pub choice-none :
    (o : Opening) (at : Reading) (rows : Rows) → counted o at rows ≡ [] → choice o at rows ≡ Err RefusalNumber.NoneCounted
unfolding filter
choice-none o at rows e = choice_of_lem o at rows [] e

-- of one row or more, some row precedes all
first_exists :
    (late : Record → ℤ) (a : Record) (rows : Rows) →
    (x : Record) × Memᴰ x (a ∷ rows) × (precedes_all late x (a ∷ rows) ≡ true)
unfolding precedes_all
first_exists late a [] = (a, Memᴰ.head refl, rw (precedes_refl late a) refl)
first_exists late a (b ∷ rows) = go (first_exists late b rows)
  where
    go :
        (x : Record) × Memᴰ x (b ∷ rows) × (precedes_all late x (b ∷ rows) ≡ true) →
        (x : Record) × Memᴰ x (a ∷ b ∷ rows) × (precedes_all late x (a ∷ b ∷ rows) ≡ true)
    go found = turn (precedes late a found.0) refl
      where
        turn :
            (t : Bool) → precedes late a found.0 ≡ t →
            (x : Record) × Memᴰ x (a ∷ b ∷ rows) × (precedes_all late x (a ∷ b ∷ rows) ≡ true)
        turn true e =
            let behind : precedes_all late a (b ∷ rows) ≡ true =
            precedes_all_trans late a found.0 (b ∷ rows) e found.2 in
            (a, Memᴰ.head refl, rw (precedes_refl late a) behind)
        turn false e =
            (found.0, Memᴰ.tail found.1, rw (precedes_total late a found.0 e) found.2)

-- a counted row than which none is later, as a target
promised-greatest :
    (o : Opening) (at : Reading) (rows : Rows) → Sound o rows → (row : Record) (n : ℕ) →
    Memᴰ row (counted o at rows) →
    ((other : Record) → Memᴰ other (counted o at rows) →
    lateness_of o at other ≤ℤ lateness_of o at row) →
    Promised o at rows (target_of row n)
unfolding Promised target_lateness
promised-greatest o at rows sound row n member greatest =
    let belongs : _ = (counted_member o at rows row member).1 in
    rw (delay-answered o row (sound row belongs) (presents row) refl) (
      λ other m k. ≤ℤ_shift (k *ℤ pos (2 ^ 32)) (greatest other m),
      λ late asks. least late (asks row member (pos 0)),
      (row, member, refl),
      λ none. Memᴰ.not-nil (subst (Memᴰ row) (fresh-none_counted o at rows none) member),
    )
  where
    least :
        (late : ℤ) →
        moment (lateness_of o at row) (pos 0) ≤ℤ moment late (pos 0) →
        lateness_of o at row ≤ℤ late
    least late h = rw (+ℤ_idr (lateness_of o at row), +ℤ_idr late) at h

-- the counted row that is chosen: none is later
pub record ChosenRow (o : Opening) (at : Reading) (rows : Rows) : Type 0 where
  pub row : Record
  pub member : Memᴰ row (counted o at rows)
  pub greatest : (other : Record) → Memᴰ other (counted o at rows) → lateness_of o at other ≤ℤ lateness_of o at row
  pub is : choice o at rows ≡ target_of row (length (counted o at rows))

pub chosen_row : (o : Opening) (at : Reading) (rows : Rows) → (counted o at rows ≡ [] → ⊥) → ChosenRow o at rows
chosen_row o at rows some = go (counted o at rows) refl
  where
    go : (those : Rows) → counted o at rows ≡ those → ChosenRow o at rows
    go [] e = absurd (some e)
    go (a ∷ rest) e = first (filter test (a ∷ rest)) refl
      where
        late : Record → ℤ
        late = lateness_of o at

        test : Record → Bool
        test row = precedes_all late row (a ∷ rest)

        first : (those : Rows) → filter test (a ∷ rest) ≡ those → ChosenRow o at rows
        first [] f =
            let found : _ = first_exists late a rest in
            let kept : _ = member_kept test found.0 (a ∷ rest) found.2 found.1 in
            absurd (Memᴰ.not-nil (subst (Memᴰ found.0) f kept))
        first (y ∷ ys) f =
            let kept : _ = kept_member test y (a ∷ rest) (subst (Memᴰ y) (sym f) (Memᴰ.head refl)) in
            record {
              row = y;
              member = subst (Memᴰ y) (sym e) kept.1;
              greatest =
                  λ other m.
                  (precedes_true late y other
                  (precedes_member late y other (a ∷ rest) kept.0 (subst (Memᴰ other) e m))).0;
              is =
                  choice_of_lem o at rows (a ∷ rest) e
                  ∙ ap (first_of (length (a ∷ rest))) f
                  ∙ ap (λ (those : Rows). target_of y (length those)) (sym e);
            }

pub choice-promised :
    (o : Opening) (at : Reading) (rows : Rows) → Sound o rows → Promised o at rows (choice o at rows)
unfolding Promised
choice-promised o at rows sound = go (counted o at rows) refl
  where
    go : (those : Rows) → counted o at rows ≡ those → Promised o at rows (choice o at rows)
    go [] e = rw (choice-none o at rows e) (refl, counted_none_fresh o at rows e)
    go (a ∷ rest) e =
        let chosen : _ =
        chosen_row o at rows (λ none. Memᴰ.not-nil (subst (Memᴰ a) (sym e ∙ none) (Memᴰ.head refl))) in
        rw chosen.is
        (promised-greatest o at rows sound chosen.row (length (counted o at rows)) chosen.member
        chosen.greatest)
