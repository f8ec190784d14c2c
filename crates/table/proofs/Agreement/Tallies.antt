-- One call on a table and on the register: the members' tallies agree afterwards, too. What an accepted call leaves was
-- there before, or is the report's own member; 14 alters the tally at one place, whose number is at no other.
use Prim.Native.Nat.{ℕ, ◌<◌}
use mathlib.Core.Bool.{Bool, true, false, cond, ◌&&◌, and-eq-true_iff}
use mathlib.Core.List.Permᴰ
use mathlib.Core.List.{◌∷◌, Memᴰ}
use mathlib.Core.Path.{◌≡◌, refl, sym, ap, ◌∙◌}
use lib.Dec.{eqb}
use lib.ListN.{length, get_or}
use native.Mathlib.Omega.{arith}
use borrow.Author.Tests.{eqb-true, eq-eqb, ne_eqb}
use Rattle.places.specs.Places.{lowest_free, without_place}
use Rattle.places.proofs.Laws.Free.{lowest_free_below}
use Rattle.refusals.specs.Refusals.{other_origin}
use Rattle.register.specs.declared.Record.{Record}
use Rattle.register.specs.declared.Member.{Member}
use Rattle.register.specs.declared.Opening.{Opening}
use Rattle.register.specs.Register.{Call, filter, farewell_checks, fresh_at, after}
use Rattle.register.specs.Tallies.{Members, records_of, raised, is_under, tally_in, tally_behind, members_after}
use Rattle.register.proofs.Rows.{kept_member, member_permuted}
use Rattle.register.proofs.Unique.{unique-permuted}
use Rattle.register.proofs.Letter.Members.{alone}
use Rattle.register.proofs.Tallies.{length-rows, record_member, tally_none, tally_after_lem, number_of_row}
use Rattle.choosing.specs.Marked.{nobody, marked_at, filter_word}
use Rattle.choosing.proofs.Laws.Marked.{row_at, rows_of_marked, marked_filter_word, filter_word_rows_lem}
use Rattle.table.specs.declared.Table.{Table}
use Rattle.table.specs.Members.{opening_of, members_of, records_in, place_in}
use Rattle.table.specs.Calls.{is_member, is_elsewhere, is_without_room, number_of, accepted_by, answered}
use Rattle.table.specs.Calls.{tally_at, filed, with_raised, source_of, refused_by}
use Rattle.table.proofs.Laws.Cases.{report_elsewhere, report_room, free_place_lem}
use Rattle.table.proofs.Laws.Members.{marked_own, marked_renew, marked_with, member_at_place}
use Rattle.table.proofs.Agreement.Calls.{Holds, rows_in, Owned, owned, rows_of_owner, none_of_number, still}
use Rattle.table.proofs.Agreement.Calls.{anew, farewell_held, number_same, answered_holds}

-- each of a table's members has the tally that its number has in the register
abbrev pub TalliesAgree : Table → Members → Type 0
TalliesAgree t ms = (m : Member) → Memᴰ m (members_of t) → m.tally ≡ tally_in ms m.«record».source

-- a member's row is one of the table's rows
row_of_member : (t : Table) (m : Member) → Memᴰ m (members_of t) → Memᴰ m.«record» (rows_in t)
row_of_member t m member = rw (← rows_of_marked t.held t.members) (record_member m (members_of t) member)

-- the number of a call has a member with another origin
abbrev pub IsElsewhere : Table → Call → Type 0
IsElsewhere t (Call.report x at) = is_elsewhere t x.source x.origin ≡ true
IsElsewhere t (Call.farewell source origin) = is_elsewhere t source origin ≡ true
IsElsewhere t (Call.sweep at) = ⊥

farewell_elsewhere_true : (held elsewhere : Bool) → farewell_checks held elsewhere ≡ other_origin → elsewhere ≡ true
unfolding farewell_checks
farewell_elsewhere_true held true e = refl
farewell_elsewhere_true true false e = absurd (omega (arith, e))
farewell_elsewhere_true false false e = absurd (omega (arith, e))

-- 14 is given under a member's number, from another origin
pub twin_elsewhere : (t : Table) (call : Call) → number_of t call ≡ other_origin → IsElsewhere t call
unfolding number_of
twin_elsewhere t (Call.report x at) e =
    report_elsewhere (opening_of t) x at (is_elsewhere t x.source x.origin) (is_without_room t x.source) e
twin_elsewhere t (Call.farewell source origin) e =
    farewell_elsewhere_true (is_member t source) (is_elsewhere t source origin) e
twin_elsewhere t (Call.sweep at) e = omega (arith, e)

-- the number of a call that got 14 is a member's, and the call is under it
pub twin_number :
    (t : Table) (call : Call) → IsElsewhere t call →
    (is_member t (source_of call) ≡ true) × ((source : ℕ) → is_under source call ≡ eqb (source_of call) source)
twin_number t (Call.report x at) e =
    (((and-eq-true_iff _ _).0 e).0, λ source. refl)
twin_number t (Call.farewell source origin) e = (((and-eq-true_iff _ _).0 e).0, λ other. refl)
twin_number t (Call.sweep at) e = absurd e

module _ (o : Opening) (t : Table) (ms : Members) (h : Holds o t (records_of ms)) (tallies : TalliesAgree t ms) where
  -- ---- the member of a number

  within : (source : ℕ) → Owned t source → place_in t source < length t.members
  within source w = omega (arith, w.within, length-rows t.members)

  own-number : (source : ℕ) → Owned t source → (get_or t.members (place_in t source) nobody).«record».source ≡ source
  own-number source w = ap (λ (x : Record). x.source) (sym (row_at t.members (place_in t source))) ∙ w.number

  own_tally : (source : ℕ) → Owned t source → tally_at t (place_in t source) ≡ tally_in ms source
  own_tally source w =
      let place : ℕ = place_in t source in
      tallies (get_or t.members place nobody)
      (member_at_place t.held place t.members nobody w.held (within source w))
      ∙ ap (tally_in ms) (own-number source w)

  -- the members at other places than its own were there
  other_member :
      (source : ℕ) → Owned t source → (m : Member) →
      Memᴰ m (marked_at (without_place t.held (place_in t source)) t.members) → Memᴰ m (members_of t)
  other_member source w m rest =
      member_permuted
      (Permᴰ.symm (marked_own t.held (place_in t source) t.members nobody w.held (within source w) w.below))
      (mathlib.Core.List.Memᴰ.tail rest)

  -- ---- an accepted call

  filed-tallies :
      (x : Record) → is_without_room t x.source ≡ false → (m : Member) → Memᴰ m (members_of (filed t x)) →
      m.tally ≡ tally_in ms m.«record».source
  unfolding filed
  filed-tallies x room m = go (is_member t x.source) refl
    where
      here :
          (first : Member) (rest : Members) → first.tally ≡ tally_in ms first.«record».source →
          (Memᴰ m rest → Memᴰ m (members_of t)) → Memᴰ m (first ∷ rest) →
          m.tally ≡ tally_in ms m.«record».source
      here first rest e there (mathlib.Core.List.Memᴰ.head q) = rw q e
      here first rest e there (mathlib.Core.List.Memᴰ.tail z) = tallies m (there z)

      go :
          (b : Bool) → is_member t x.source ≡ b → Memᴰ m (members_of (filed t x)) →
          m.tally ≡ tally_in ms m.«record».source
      go true e member =
          let w : Owned t x.source = owned t x.source h.long e in
          let place : ℕ = place_in t x.source in
          here (still t x) _ (own_tally x.source w) (other_member x.source w m)
          (member_permuted
          (marked_renew t.held place t.members (still t x) w.held (within x.source w) w.below)
          (rw e at member))
      go false e member =
          let below : _ = free_place_lem t x.source e room in
          let free : _ = (lowest_free_below 64 t.held h.fits below).0 in
          let none : _ = tally_none ms x.source (none_of_number o t (records_of ms) h x.source e) in
          here (anew x) _ (sym none) (λ z. z)
          (member_permuted
          (marked_with t.held (lowest_free 64 t.held) t.members (anew x) free (omega (arith, below, h.long))
          below)
          (rw e at member))

  accepted-tallies : (call : Call) → number_of t call ≡ 0 → TalliesAgree (accepted_by t call) ms
  unfolding number_of
  accepted-tallies (Call.report x at) e m member = filed-tallies x (report_room t x at e) m member
  accepted-tallies (Call.farewell source origin) e m member =
      let known : is_member t source ≡ true = farewell_held (is_member t source) (is_elsewhere t source origin) e in
      tallies m (other_member source (owned t source h.long known) m member)
  accepted-tallies (Call.sweep at) e m member =
      let fresh : Record → Bool = fresh_at (opening_of t) at in
      let word : filter_word fresh t.held (records_in t)
      ≡ filter_word (λ m. fresh m.«record») t.held t.members =
      filter_word_rows_lem fresh t.held t.members in
      let kept : marked_at (filter_word fresh t.held (records_in t)) t.members
      ≡ filter (λ m. fresh m.«record») (members_of t) =
      ap (λ (w : ℕ). marked_at w t.members) word
      ∙ marked_filter_word (λ m. fresh m.«record») t.held t.members in
      tallies m (kept_member (λ m. fresh m.«record») m (members_of t) (rw kept at member)).1

  -- ---- a refused one

  -- a member at another place has another number
  other_number :
      (source : ℕ) → Owned t source → (m : Member) →
      Memᴰ m (marked_at (without_place t.held (place_in t source)) t.members) → m.«record».source ≡ source → ⊥
  other_number source w m rest same =
      let word : ℕ = without_place t.held (place_in t source) in
      let row : Memᴰ m.«record» (marked_at word (records_in t)) =
      rw (← rows_of_marked word t.members) (record_member m (marked_at word t.members) rest) in
      alone _ m.«record» (marked_at word (records_in t))
      (unique-permuted (rows_of_owner o t (records_of ms) h source w) h.unique) row (same ∙ sym w.number)

  tallied-tallies :
      (call : Call) → IsElsewhere t call → (m : Member) →
      Memᴰ m (members_of (with_raised t (place_in t (source_of call)))) →
      m.tally ≡ tally_behind call other_origin m.«record».source (tally_in ms m.«record».source)
  tallied-tallies call elsewhere m member =
      let source : ℕ = source_of call in
      let twin : _ = twin_number t call elsewhere in
      let w : Owned t source = owned t source h.long twin.0 in
      go w twin.1
      (member_permuted
      (marked_renew t.held (place_in t source) t.members _ w.held (within source w) w.below) member)
    where
      go :
          Owned t (source_of call) → ((source : ℕ) → is_under source call ≡ eqb (source_of call) source) →
          Memᴰ m
          (record {
            «record» = (get_or t.members (place_in t (source_of call)) nobody).«record»;
            tally = raised (tally_at t (place_in t (source_of call)));
          }
          ∷ marked_at (without_place t.held (place_in t (source_of call))) t.members) →
          m.tally ≡ tally_behind call other_origin m.«record».source (tally_in ms m.«record».source)
      go w under (mathlib.Core.List.Memᴰ.head q) =
          rw (q, own-number (source_of call) w, under (source_of call), eq-eqb (source_of call) (source_of call) refl)
          (ap raised (own_tally (source_of call) w))
      go w under (mathlib.Core.List.Memᴰ.tail z) =
          let apart : _ = other_number (source_of call) w m z in
          rw (under m.«record».source, ne_eqb (source_of call) m.«record».source (λ e. apart (sym e)))
          (tallies m (other_member (source_of call) w m z))

  -- what a call leaves has the tallies that the register's answer says
  answered-behind :
      (call : Call) (m : Member) → Memᴰ m (members_of (answered t call).table) →
      m.tally ≡ tally_behind call (number_of t call) m.«record».source (tally_in ms m.«record».source)
  unfolding answered refused_by
  answered-behind call m =
      go (eqb (number_of t call) 0) refl (eqb (number_of t call) other_origin) refl
    where
      go :
          (a : Bool) → eqb (number_of t call) 0 ≡ a → (b : Bool) → eqb (number_of t call) other_origin ≡ b →
          Memᴰ m
          (members_of (cond a (accepted_by t call) (cond b (with_raised t (place_in t (source_of call))) t))) →
          m.tally
          ≡ cond (b && is_under m.«record».source call) (raised (tally_in ms m.«record».source))
          (tally_in ms m.«record».source)
      go true e true f member =
          absurd (omega (arith, eqb-true (number_of t call) 0 e, eqb-true (number_of t call) other_origin f))
      go true e false f member = accepted-tallies call (eqb-true (number_of t call) 0 e) m member
      go false e true f member =
          tallied-tallies call (twin_elsewhere t call (eqb-true (number_of t call) other_origin f)) m member
      go false e false f member = tallies m member

  pub answered-tallies : (call : Call) → TalliesAgree (answered t call).table (members_after o ms call)
  answered-tallies call m member =
      let source : ℕ = m.«record».source in
      let row : Memᴰ m.«record» (after o (records_of ms) call) =
      member_permuted (answered_holds o t (records_of ms) h call).same (row_of_member (answered t call).table m member) in
      answered-behind call m member
      ∙ ap (λ (n : ℕ). tally_behind call n source (tally_in ms source)) (number_same o t (records_of ms) h call)
      ∙ sym (tally_after_lem o ms call source (number_of_row m.«record» _ row))
