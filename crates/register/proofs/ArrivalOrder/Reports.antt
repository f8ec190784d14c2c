-- Two accepted reports of different numbers, in either order (document 02, E8): both are accepted, and the rows that
-- they leave are a permutation, with every tally as it was.
use Prim.Native.Nat.{ℕ, suc}
use mathlib.Core.Bool.{Bool, true, false, not, cond, ◌&&◌, ◌||◌}
use mathlib.Core.List.Permᴰ
use mathlib.Core.List.{[], ◌∷◌, Permᴰ}
use mathlib.Core.Path.{◌≡◌, refl, sym, ap, ap₂, ◌∙◌}
use lib.Dec.{eqb}
use lib.ListN.{length}
use borrow.Author.Tests.{eqb-true, ne_eqb}
use Rattle.origin.specs.Origins.{same_origin}
use Rattle.register.specs.declared.Record.{Record}
use Rattle.register.specs.declared.Reading.{Reading}
use Rattle.register.specs.declared.Opening.{Opening}
use Rattle.register.specs.Register.{Rows, Call, any, has_number, is_held_elsewhere, renewed, report_checks}
use Rattle.register.specs.Register.{has_no_room, answer}
use Rattle.register.specs.Tallies.{Members, records_of, tally_in, with_tallies, tally_behind, tally_after}
use Rattle.register.specs.Tallies.{members_after}
use Rattle.register.proofs.Rows.{clash, or_false}
use Rattle.register.proofs.Unique.{own-number}
use Rattle.register.proofs.Stands.{accepted_room}
use Rattle.register.proofs.Letter.Theorem.{after-accepted}
use Rattle.register.proofs.Tallies.{rows_with, rows-after, tally_none, tally_with}

-- ---- rows

-- a test that no row of x's number passes
any-renewed :
    (test : Record → Bool) (rows : Rows) (x : Record) →
    ((row : Record) → has_number x.source row ≡ true → test row ≡ false) → any test (renewed rows x) ≡ any test rows
unfolding any renewed
any-renewed test [] x none = rw (none x (own-number x)) refl
any-renewed test (row ∷ rows) x none = go (has_number x.source row) refl (any-renewed test rows x none)
  where
    go :
        (t : Bool) → has_number x.source row ≡ t → any test (renewed rows x) ≡ any test rows →
        any test (cond t (x ∷ rows) (row ∷ renewed rows x)) ≡ (test row || any test rows)
    go true e rest = rw (none x (own-number x), none row e) refl
    go false e rest = ap (λ (b : Bool). test row || b) rest

-- as many rows as before, or one more where the number is new
length-renewed :
    (rows : Rows) (x : Record) →
    length (renewed rows x) ≡ cond (any (has_number x.source) rows) (length rows) (suc (length rows))
unfolding any renewed
length-renewed [] x = refl
length-renewed (row ∷ rows) x = go (has_number x.source row) (length-renewed rows x)
  where
    more : (t : Bool) (n : ℕ) → suc (cond t n (suc n)) ≡ cond t (suc n) (suc (suc n))
    more true n = refl
    more false n = refl

    go :
        (t : Bool) →
        length (renewed rows x) ≡ cond (any (has_number x.source) rows) (length rows) (suc (length rows)) →
        length (cond t (x ∷ rows) (row ∷ renewed rows x))
        ≡ cond (t || any (has_number x.source) rows) (suc (length rows)) (suc (suc (length rows)))
    go true rest = refl
    go false rest = ap suc rest ∙ more (any (has_number x.source) rows) (length rows)

-- ---- two numbers

module _ (x y : Record) (apart : x.source ≡ y.source → ⊥) where
  -- a row of x's number has not y's
  other_number : (row : Record) → has_number x.source row ≡ true → has_number y.source row ≡ false
  other_number row e = ne_eqb _ _ (λ same. apart (sym (eqb-true _ _ e) ∙ same))

  held_other : (rows : Rows) → any (has_number y.source) (renewed rows x) ≡ any (has_number y.source) rows
  held_other rows = any-renewed (has_number y.source) rows x other_number

  elsewhere_other :
      (rows : Rows) →
      is_held_elsewhere (renewed rows x) y.source y.origin ≡ is_held_elsewhere rows y.source y.origin
  elsewhere_other rows =
      any-renewed (λ row. has_number y.source row && not (same_origin row.origin y.origin)) rows x
      (λ row e. rw (other_number row e) refl)

-- the two reports stand in either order, at most at each other's places
pub renewed_swap :
    (x y : Record) → (x.source ≡ y.source → ⊥) → (rows : Rows) →
    Permᴰ (renewed (renewed rows x) y) (renewed (renewed rows y) x)
unfolding renewed
renewed_swap x y apart [] =
    rw (other_number x y apart x (own-number x), other_number y x (λ e. apart (sym e)) y (own-number y))
    (Permᴰ.swap refl refl)
renewed_swap x y apart (row ∷ rows) =
    go (has_number x.source row) (has_number y.source row) refl refl (renewed_swap x y apart rows)
  where
    go :
        (s t : Bool) → has_number x.source row ≡ s → has_number y.source row ≡ t →
        Permᴰ (renewed (renewed rows x) y) (renewed (renewed rows y) x) →
        Permᴰ (renewed (cond s (x ∷ rows) (row ∷ renewed rows x)) y)
        (renewed (cond t (y ∷ rows) (row ∷ renewed rows y)) x)
    go true true e f rest = clash (sym (other_number x y apart row e) ∙ f)
    go true false e f rest = rw (e, other_number x y apart x (own-number x)) (Permᴰ.refl _)
    go false true e f rest = rw (f, other_number y x (λ p. apart (sym p)) y (own-number y)) (Permᴰ.refl _)
    go false false e f rest = rw (e, f) (Permᴰ.cons refl rest)

-- ---- answers

-- room for both: p and q say whether x and y have rows, of which there are n
room_swap :
    (p q : Bool) (n : ℕ) → (not p && eqb n 64) ≡ false → (not q && eqb (cond p n (suc n)) 64) ≡ false →
    ((not q && eqb n 64) ≡ false) × ((not p && eqb (cond q n (suc n)) 64) ≡ false)
room_swap true true n first second = (refl, refl)
room_swap true false n first second = (second, refl)
room_swap false true n first second = (refl, first)
room_swap false false n first second = (first, second)

module _
    (o : Opening) (rows : Rows) (x y : Record) (at then : Reading) (apart : x.source ≡ y.source → ⊥)
    (first : answer o rows (Call.report x at) ≡ 0) (second : answer o (renewed rows x) (Call.report y then) ≡ 0) where
  room_both : (has_no_room rows y.source ≡ false) × (has_no_room (renewed rows y) x.source ≡ false)
  unfolding answer
  room_both =
      let before : has_no_room rows x.source ≡ false = accepted_room o x at _ _ first in
      let behind : has_no_room (renewed rows x) y.source ≡ false = accepted_room o y then _ _ second in
      let rooms : _ =
      room_swap (any (has_number x.source) rows) (any (has_number y.source) rows) (length rows) before
      (rw (held_other x y apart rows, length-renewed rows x) at behind) in
      (rooms.0, rw (held_other y x (λ e. apart (sym e)) rows, length-renewed rows y) rooms.1)

  -- the second report is answered without the first as it is behind it, and the first behind the second as without it
  pub second_alone : answer o rows (Call.report y then) ≡ 0
  unfolding answer
  second_alone =
      let room : has_no_room (renewed rows x) y.source ≡ false = accepted_room o y then _ _ second in
      ap₂ (report_checks o y then) (sym (elsewhere_other x y apart rows)) (room_both.0 ∙ sym room) ∙ second

  pub first_behind : answer o (renewed rows y) (Call.report x at) ≡ 0
  unfolding answer
  first_behind =
      let room : has_no_room rows x.source ≡ false = accepted_room o x at _ _ first in
      ap₂ (report_checks o x at) (elsewhere_other y x (λ e. apart (sym e)) rows) (room_both.1 ∙ sym room) ∙ first

-- ---- members

pub with_same :
    (f g : ℕ → ℕ) (rows : Rows) → ((source : ℕ) → f source ≡ g source) → with_tallies f rows ≡ with_tallies g rows
unfolding with_tallies
with_same f g [] same = refl
with_same f g (row ∷ rows) same =
    ap₂ (λ (n : ℕ) (rest : Members). record { «record» = row; tally = n } ∷ rest) (same row.source)
    (with_same f g rows same)

-- an accepted report leaves every tally as it was
members-accepted :
    (o : Opening) (ms : Members) (x : Record) (at : Reading) → answer o (records_of ms) (Call.report x at) ≡ 0 →
    members_after o ms (Call.report x at) ≡ with_tallies (tally_in ms) (renewed (records_of ms) x)
unfolding members_after
members-accepted o ms x at e =
    with_same (tally_after o ms (Call.report x at)) (tally_in ms) _
    (λ source. ap (λ (n : ℕ). tally_behind (Call.report x at) n source (tally_in ms source)) e)
    ∙ ap (with_tallies (tally_in ms)) (after-accepted o (records_of ms) (Call.report x at) e)

-- a number without a row among those that a report leaves had none before
none_before :
    (source : ℕ) (rows : Rows) (x : Record) → any (has_number source) (renewed rows x) ≡ false →
    any (has_number source) rows ≡ false
unfolding any renewed
none_before source [] x e = refl
none_before source (row ∷ rows) x e = go (has_number x.source row) refl e (none_before source rows x)
  where
    go :
        (t : Bool) → has_number x.source row ≡ t →
        any (has_number source) (cond t (x ∷ rows) (row ∷ renewed rows x)) ≡ false →
        (any (has_number source) (renewed rows x) ≡ false → any (has_number source) rows ≡ false) →
        (has_number source row || any (has_number source) rows) ≡ false
    go true here e rest = rw (eqb-true row.source x.source here) e
    go false here e rest =
        let both : _ = or_false (has_number source row) (any (has_number source) (renewed rows x)) e in
        rw both.0 (rest both.1)

tally_accepted :
    (o : Opening) (ms : Members) (x : Record) (at : Reading) → answer o (records_of ms) (Call.report x at) ≡ 0 →
    (source : ℕ) → tally_in (members_after o ms (Call.report x at)) source ≡ tally_in ms source
tally_accepted o ms x at e source =
    ap (λ (those : Members). tally_in those source) (members-accepted o ms x at e)
    ∙ go (any (has_number source) (renewed (records_of ms) x)) refl
  where
    go :
        (t : Bool) → any (has_number source) (renewed (records_of ms) x) ≡ t →
        tally_in (with_tallies (tally_in ms) (renewed (records_of ms) x)) source ≡ tally_in ms source
    go true held = tally_with (tally_in ms) (renewed (records_of ms) x) source held
    go false none =
        tally_none (with_tallies (tally_in ms) (renewed (records_of ms) x)) source
        (ap (any (has_number source)) (rows_with (tally_in ms) (renewed (records_of ms) x)) ∙ none)
        ∙ sym (tally_none ms source (none_before source (records_of ms) x none))

-- two accepted reports, one after the other
pub members_of_two :
    (o : Opening) (ms : Members) (x y : Record) (at then : Reading) →
    answer o (records_of ms) (Call.report x at) ≡ 0 →
    answer o (renewed (records_of ms) x) (Call.report y then) ≡ 0 →
    members_after o (members_after o ms (Call.report x at)) (Call.report y then)
    ≡ with_tallies (tally_in ms) (renewed (renewed (records_of ms) x) y)
members_of_two o ms x y at then first second =
    let rows : records_of (members_after o ms (Call.report x at)) ≡ renewed (records_of ms) x =
    rows-after o ms (Call.report x at) ∙ after-accepted o (records_of ms) (Call.report x at) first in
    members-accepted o (members_after o ms (Call.report x at)) y then
    (ap (λ (rs : Rows). answer o rs (Call.report y then)) rows ∙ second)
    ∙ with_same (tally_in (members_after o ms (Call.report x at))) (tally_in ms) _ (tally_accepted o ms x at first)
    ∙ ap (λ (rs : Rows). with_tallies (tally_in ms) (renewed rs y)) rows
