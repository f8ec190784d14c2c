-- One call on a table and on the register whose rows agree with its members: the same answer, and they agree
-- afterwards.
use Prim.Native.Nat.{ℕ, ◌^◌, ◌≤◌, ◌<◌}
use mathlib.Core.Bool.{Bool, true, false, not, cond, ◌&&◌, ◌||◌}
use mathlib.Core.List.Permᴰ
use mathlib.Core.List.{◌∷◌, Permᴰ}
use mathlib.Core.Path.{◌≡◌, refl, sym, ap, ◌∙◌}
use lib.Dec.{eqb}
use lib.ListN.{length, get_or, length-set}
use native.Mathlib.Omega.{arith}
use borrow.Author.Tests.{eqb-true, eq-eqb, ltb-true, ltb-false}
use Rattle.origin.specs.declared.Origin.{Origin}
use Rattle.origin.specs.Origins.{same_origin}
use Rattle.refusals.specs.Refusals.{other_origin}
use Rattle.places.specs.Places.{is_held, held_in, lowest_free, with_place, without_place}
use Rattle.places.proofs.Laws.Bits.{with_fits, without_fits}
use Rattle.places.proofs.Laws.Free.{lowest_free_below, full_held}
use Rattle.register.specs.declared.Record.{Record}
use Rattle.register.specs.declared.Member.{Member}
use Rattle.register.specs.declared.Opening.{Opening}
use Rattle.register.specs.Register.{Rows, Call, filter, any, has_number, is_held_elsewhere, has_no_room, renewed}
use Rattle.register.specs.Register.{farewell_checks, fresh_at, answer, accepted, after}
use Rattle.register.specs.Promise.{Unique}
use Rattle.register.proofs.Rows.{any-permuted, filter-permuted, length-permuted, any-filter, any_and_none}
use Rattle.register.proofs.Stands.{accepted_room}
use Rattle.register.proofs.Unique.{unique-permuted, without_own, elsewhere_own}
use Rattle.register.proofs.Permuted.{unique-after, renewed_form}
use Rattle.register.proofs.Tallies.{length-rows, rows-set}
use Rattle.choosing.specs.Marked.{nowhere, marked_at}
use Rattle.choosing.proofs.Laws.Marked.{marked_filter_word, filter_word_fits, ones_of_rows}
use Rattle.table.specs.declared.Table.{Table}
use Rattle.table.specs.Members.{opening_of, records_in, place_in}
use Rattle.table.specs.Calls.{is_member, is_elsewhere, is_without_room, number_of, accepted_by, answered}
use Rattle.table.specs.Calls.{with_held, with_member, tally_at, filed, with_raised, refused_by}
use Rattle.table.proofs.Laws.Cases.{free_place_lem, records-tallied}
use Rattle.table.proofs.Laws.Members.{permuted_by, place_found, marked_own, marked_renew, marked_with}

-- the rows of a table's members
abbrev pub rows_in : Table → Rows
rows_in t = marked_at t.held (records_in t)

-- a table whose 64 places, marked by a word of 64 bits, hold the rows, each number once
pub record Holds (o : Opening) (t : Table) (rows : Rows) : Type 0 where
  pub opening : opening_of t ≡ o
  pub fits : t.held < 2 ^ 64
  pub long : length t.members ≡ 64
  pub same : Permᴰ (rows_in t) rows
  pub unique : Unique rows

-- ---- who holds a number

-- the member with a number, and the rows without it
pub record Owned (t : Table) (source : ℕ) : Type 0 where
  pub held : is_held (place_in t source) t.held ≡ true
  pub below : place_in t source < 64
  pub within : place_in t source < length (records_in t)
  pub number : (get_or (records_in t) (place_in t source) nowhere).source ≡ source

pub owned : (t : Table) (source : ℕ) → length t.members ≡ 64 → is_member t source ≡ true → Owned t source
owned t source long e =
    let below : place_in t source < 64 = ltb-true (place_in t source) 64 e in
    let within : place_in t source < length (records_in t) = omega (arith, below, long, length-rows t.members) in
    let found : _ = (place_found source t.held (records_in t)).1 within in
    record {
      held = found.0;
      below = below;
      within = within;
      number = eqb-true (get_or (records_in t) (place_in t source) nowhere).source source found.1;
    }

abbrev own : Table → ℕ → Record
own t source = get_or (records_in t) (place_in t source) nowhere

abbrev rest : Table → ℕ → Rows
rest t source = marked_at (without_place t.held (place_in t source)) (records_in t)

pub rows_of_owner :
    (o : Opening) (t : Table) (rows : Rows) → Holds o t rows → (source : ℕ) → Owned t source →
    Permᴰ rows (own t source ∷ rest t source)
rows_of_owner o t rows h source w =
    Permᴰ.trans (Permᴰ.symm h.same)
    (marked_own t.held (place_in t source) (records_in t) nowhere w.held w.within w.below)

pub none_of_number :
    (o : Opening) (t : Table) (rows : Rows) → Holds o t rows → (source : ℕ) → is_member t source ≡ false →
    any (has_number source) rows ≡ false
none_of_number o t rows h source e =
    let behind : 64 ≤ place_in t source = ltb-false (place_in t source) 64 e in
    sym (any-permuted (has_number source) h.same)
    ∙ (place_found source t.held (records_in t)).2 (omega (arith, behind, h.long, length-rows t.members))

member_any :
    (o : Opening) (t : Table) (rows : Rows) → Holds o t rows → (source : ℕ) →
    is_member t source ≡ any (has_number source) rows
unfolding any
member_any o t rows h source = go (is_member t source) refl
  where
    go : (b : Bool) → is_member t source ≡ b → is_member t source ≡ any (has_number source) rows
    go true e =
        let w : _ = owned t source h.long e in
        let here : has_number source (own t source) ≡ true = eq-eqb (own t source).source source w.number in
        e ∙ sym (any-permuted (has_number source) (rows_of_owner o t rows h source w)
        ∙ ap (λ (b : Bool). b || any (has_number source) (rest t source)) here)
    go false e = e ∙ sym (none_of_number o t rows h source e)

-- the number's row has another origin exactly where its member has
elsewhere_same :
    (o : Opening) (t : Table) (rows : Rows) → Holds o t rows → (source : ℕ) (origin : Origin) →
    is_elsewhere t source origin ≡ is_held_elsewhere rows source origin
elsewhere_same o t rows h source origin = go (is_member t source) refl
  where
    go : (b : Bool) → is_member t source ≡ b → is_elsewhere t source origin ≡ is_held_elsewhere rows source origin
    go true e =
        let w : _ = owned t source h.long e in
        let apart : _ = rows_of_owner o t rows h source w in
        let alone : Unique (own t source ∷ rest t source) = unique-permuted apart h.unique in
        let there : is_held_elsewhere rows source origin ≡ is_held_elsewhere (own t source ∷ rest t source) source origin =
        any-permuted (λ row. has_number source row && not (same_origin row.origin origin)) apart in
        let number : is_held_elsewhere (own t source ∷ rest t source) (own t source).source origin
        ≡ is_held_elsewhere (own t source ∷ rest t source) source origin =
        ap (λ (n : ℕ). is_held_elsewhere (own t source ∷ rest t source) n origin) w.number in
        ap (λ (b : Bool). b && not (same_origin (own t source).origin origin)) e
        ∙ sym (elsewhere_own (own t source) (rest t source) alone origin)
        ∙ number
        ∙ sym there
    go false e =
        ap (λ (b : Bool). b && not (same_origin (own t source).origin origin)) e
        ∙ sym
        (any_and_none (has_number source) (λ row. not (same_origin row.origin origin)) rows
        (none_of_number o t rows h source e))

-- as many rows as places held
pub rows-count : (o : Opening) (t : Table) (rows : Rows) → Holds o t rows → held_in 64 t.held ≡ length rows
rows-count o t rows h =
    ap (λ (k : ℕ). held_in k t.held) (sym (length-rows t.members ∙ h.long))
    ∙ ones_of_rows t.held (records_in t)
    ∙ length-permuted h.same

room_same :
    (o : Opening) (t : Table) (rows : Rows) → Holds o t rows → (source : ℕ) →
    is_without_room t source ≡ has_no_room rows source
room_same o t rows h source =
    ap (λ (b : Bool). not b && eqb (lowest_free 64 t.held) 64) (member_any o t rows h source)
    ∙ ap (λ (b : Bool). not (any (has_number source) rows) && b)
    (full_held 64 t.held h.fits ∙ ap (λ (k : ℕ). eqb k 64) (rows-count o t rows h))

-- ---- every answer is the register's

pub number_same :
    (o : Opening) (t : Table) (rows : Rows) → Holds o t rows → (call : Call) → number_of t call ≡ answer o rows call
unfolding number_of answer
number_same o t rows h (Call.report x at) =
    rw (h.opening, elsewhere_same o t rows h x.source x.origin, room_same o t rows h x.source) refl
number_same o t rows h (Call.farewell source origin) =
    ap (λ (known : Bool). farewell_checks known (is_elsewhere t source origin)) (member_any o t rows h source)
    ∙ ap (farewell_checks (any (has_number source) rows)) (elsewhere_same o t rows h source origin)
number_same o t rows h (Call.sweep at) = refl

-- ---- and they agree afterwards

-- a number's row taken out of the rows: the table without that place
without_number :
    (o : Opening) (t : Table) (rows : Rows) → Holds o t rows → (source : ℕ) → Owned t source →
    Permᴰ (rest t source) (filter (λ row. not (has_number source row)) rows)
without_number o t rows h source w =
    let apart : _ = rows_of_owner o t rows h source w in
    let alone : Unique (own t source ∷ rest t source) = unique-permuted apart h.unique in
    let kept : filter (λ row. not (has_number source row)) (own t source ∷ rest t source) ≡ rest t source =
    ap (λ (n : ℕ). filter (λ row. not (has_number n row)) (own t source ∷ rest t source)) (sym w.number)
    ∙ without_own (own t source) (rest t source) alone in
    Permᴰ.symm (rw kept at (filter-permuted (λ row. not (has_number source row)) apart))

-- what an accepted report leaves at its number's place, and at a free one
abbrev pub still : Table → Record → Member
still t x = record { «record» = x; tally = tally_at t (place_in t x.source) }

abbrev pub anew : Record → Member
anew x = record { «record» = x; tally = 0 }

filed-rows :
    (o : Opening) (t : Table) (rows : Rows) → Holds o t rows → (x : Record) → is_without_room t x.source ≡ false →
    Permᴰ (rows_in (filed t x)) (renewed rows x)
unfolding filed
filed-rows o t rows h x room = go (is_member t x.source) refl
  where
    go : (b : Bool) → is_member t x.source ≡ b → Permᴰ (rows_in (filed t x)) (renewed rows x)
    go true e =
        let w : _ = owned t x.source h.long e in
        rw e
        (permuted_by (ap (marked_at t.held) (rows-set t.members (place_in t x.source) _)) refl
        (Permᴰ.trans
        (marked_renew t.held (place_in t x.source) (records_in t) x w.held w.within w.below)
        (Permᴰ.trans
        (Permᴰ.cons refl (without_number o t rows h x.source w))
        (Permᴰ.symm (renewed_form rows h.unique x)))))
    go false e =
        let below : _ = free_place_lem t x.source e room in
        let free : _ = (lowest_free_below 64 t.held h.fits below).0 in
        let kept : filter (λ row. not (has_number x.source row)) rows ≡ rows =
        any-filter (has_number x.source) rows (none_of_number o t rows h x.source e) in
        let within : lowest_free 64 t.held < length (records_in t) =
        omega (arith, below, h.long, length-rows t.members) in
        let word : ℕ = with_place t.held (lowest_free 64 t.held) in
        rw e
        (permuted_by (ap (marked_at word) (rows-set t.members (lowest_free 64 t.held) _)) refl
        (Permᴰ.trans
        (marked_with t.held (lowest_free 64 t.held) (records_in t) x free within below)
        (Permᴰ.trans
        (Permᴰ.cons refl h.same)
        (Permᴰ.symm (rw kept at (renewed_form rows h.unique x))))))

-- what holds of the table with x at its number's place, and with x at the lowest free one, whatever the tally, holds
-- where x is filed
filed_either :
    (t : Table) (x : Record) (P : Table → Type 0) →
    ((n : ℕ) → P (with_member t (place_in t x.source) (record { «record» = x; tally = n }))) →
    ((n : ℕ) →
    P (with_member (with_held t (with_place t.held (lowest_free 64 t.held))) (lowest_free 64 t.held)
    (record { «record» = x; tally = n }))) →
    P (filed t x)
unfolding filed
filed_either t x P own new = go (is_member t x.source) refl
  where
    go : (b : Bool) → is_member t x.source ≡ b → P (filed t x)
    go true e = rw e (own _)
    go false e = rw e (new _)

filed-length : (t : Table) (x : Record) → length (filed t x).members ≡ length t.members
filed-length t x =
    filed_either t x (λ (u : Table). length u.members ≡ length t.members)
    (λ n. length-set t.members (place_in t x.source) (record { «record» = x; tally = n }))
    (λ n. length-set t.members (lowest_free 64 t.held) (record { «record» = x; tally = n }))

filed_fits : (t : Table) (x : Record) → t.held < 2 ^ 64 → (filed t x).held < 2 ^ 64
filed_fits t x fits =
    filed_either t x (λ (u : Table). u.held < 2 ^ 64) (λ n. fits)
    (λ n. with_fits t.held (lowest_free 64 t.held) fits)

filed-opening : (t : Table) (x : Record) → opening_of (filed t x) ≡ opening_of t
filed-opening t x = filed_either t x (λ (u : Table). opening_of u ≡ opening_of t) (λ n. refl) (λ n. refl)

-- answered 0, a farewell's number is a member's
pub farewell_held : (held elsewhere : Bool) → farewell_checks held elsewhere ≡ 0 → held ≡ true
unfolding farewell_checks
farewell_held true elsewhere e = refl
farewell_held false elsewhere e = absurd (omega arith)

-- a call that the register accepts leaves table and rows in agreement
accepted_holds :
    (o : Opening) (t : Table) (rows : Rows) → Holds o t rows → (call : Call) → number_of t call ≡ 0 →
    Unique (accepted o rows call) → Holds o (accepted_by t call) (accepted o rows call)
unfolding number_of farewell_checks
accepted_holds o t rows h (Call.report x at) e unique =
    let room : is_without_room t x.source ≡ false =
    accepted_room (opening_of t) x at (is_elsewhere t x.source x.origin) (is_without_room t x.source) e in
    record {
      opening = filed-opening t x ∙ h.opening;
      fits = filed_fits t x h.fits;
      long = filed-length t x ∙ h.long;
      same = filed-rows o t rows h x room;
      unique = unique;
    }
accepted_holds o t rows h (Call.farewell source origin) e unique =
    let member : is_member t source ≡ true = farewell_held (is_member t source) (is_elsewhere t source origin) e in
    let w : Owned t source = owned t source h.long member in
    record {
      opening = h.opening;
      fits = without_fits t.held (place_in t source) h.fits;
      long = h.long;
      same = without_number o t rows h source w;
      unique = unique;
    }
accepted_holds o t rows h (Call.sweep at) e unique =
    let kept : rows_in (accepted_by t (Call.sweep at)) ≡ filter (fresh_at (opening_of t) at) (rows_in t) =
    marked_filter_word (fresh_at (opening_of t) at) t.held (records_in t) in
    let opens : filter (fresh_at (opening_of t) at) (rows_in t) ≡ filter (fresh_at o at) (rows_in t) =
    ap (λ (p : Opening). filter (fresh_at p at) (rows_in t)) h.opening in
    let long : length (records_in t) ≡ 64 = length-rows t.members ∙ h.long in
    record {
      opening = h.opening;
      fits = rw long at (filter_word_fits (fresh_at (opening_of t) at) t.held (records_in t));
      long = h.long;
      same = rw (kept, opens) (filter-permuted (fresh_at o at) h.same);
      unique = unique;
    }

-- a refusal leaves every record where it was
refused_holds :
    (o : Opening) (t : Table) (rows : Rows) → Holds o t rows → (call : Call) (number : ℕ) →
    Holds o (refused_by t call number) rows
unfolding refused_by
refused_holds o t rows h call number = go _ (eqb number other_origin)
  where
    go : (place : ℕ) (b : Bool) → Holds o (cond b (with_raised t place) t) rows
    go place true =
        record {
          opening = h.opening;
          fits = h.fits;
          long = length-set t.members place _ ∙ h.long;
          same = rw (records-tallied t place) h.same;
          unique = h.unique;
        }
    go place false = h

pub answered_holds :
    (o : Opening) (t : Table) (rows : Rows) → Holds o t rows → (call : Call) →
    Holds o (answered t call).table (after o rows call)
unfolding answered after
answered_holds o t rows h call = go (eqb (answer o rows call) 0) refl
  where
    go : (b : Bool) → eqb (answer o rows call) 0 ≡ b → Holds o (answered t call).table (after o rows call)
    go true e =
        let number : number_of t call ≡ answer o rows call = number_same o t rows h call in
        let unique : Unique (accepted o rows call) = rw e at (unique-after o call rows h.unique) in
        rw (number, e)
        (accepted_holds o t rows h call (number ∙ eqb-true (answer o rows call) 0 e) unique)
    go false e =
        let number : number_of t call ≡ answer o rows call = number_same o t rows h call in
        rw (number, e) (refused_holds o t rows h call (answer o rows call))
