-- What a caller may rely on, beyond the call's own contract: how long a list is long enough, that demand 3 reaches the
-- table that a datagram or an item of it leaves, and what reduced size changes (E2).
use Prim.Native.Nat.{ℕ, ◌+◌, ◌≤◌}
use Rattle.std.specs.Prelude.{Ok}
use mathlib.Core.Path.{◌≡◌, refl, ap}
use mathlib.Core.Bool.{Bool, true, false}
use mathlib.Core.List.{List, [], ◌∷◌, ◌++◌}
use lib.Dec.{ltb}
use lib.ListN.{length, drop}
use native.Mathlib.Omega.{arith}
use borrow.Author.Tests.{lt-ltb, le-ltb}
use Rattle.idms.specs.declared.Item.{Item}
use Rattle.idms.specs.declared.Placed.{Placed}
use Rattle.origin.specs.declared.Origin.{Origin}
use Rattle.register.specs.declared.Reading.{Reading}
use Rattle.register.specs.declared.Opening.{Opening}
use Rattle.register.specs.Register.{Call, answer, answers}
use Rattle.register.specs.Tallies.{Members, records_of, members_after_all}
use Rattle.register.specs.Promise.{AllInRange}
use Rattle.register.proofs.Tallies.{rows_after-all}
use Rattle.register.proofs.History.{answers-behind, ranges-append}
use Rattle.table.specs.declared.Table.{Table}
use Rattle.table.specs.Calls.{answered}
use Rattle.table.specs.Intake.{call_taken, taken}
use Rattle.table.specs.History.{answers_from, table_from, Reached}
use Rattle.table.proofs.Agreement.Theorem.{reached_further, reached-answers}
use Rattle.packet.specs.Bytes.{AreBytes}
use Rattle.packet.specs.Report.{report_at}
use Rattle.refusals.specs.declared.RefusalNumber.{RefusalNumber}
use Rattle.refusals.specs.Refusals.{bad_first, refusal_number}
use Rattle.std.proofs.lemmas.Grind.{common_steps}
use Rattle.packet.specs.Checks.{Check, passed, refused}
use Rattle.packet.proofs.Laws.Checks.{Refuses}
use Rattle.datagram.specs.Datagram.{datagram_check, datagram_items}
use Rattle.datagram.specs.Answers.{item_count}
use Rattle.packet.proofs.Laws.Bytes.{be64_bound}
use Rattle.datagram.proofs.Laws.Answers.{datagram-passed}
use Rattle.datagram.proofs.Theorems.{datagram_not_four, datagram-alike, passes_agreed}
use Rattle.rtcp.proofs.Laws.ItemPlaces.{All, none, also, ReadFrom, report, setting, farewell, items_read, item-read}
use Rattle.rtcp.proofs.Theorems.{count_bound}
use Rattle.intake.specs.Datagrams.{calls_of, calls_in, answered_unless, numbers_unless}
use Rattle.intake.specs.Datagrams.{datagram_answered, answers_after}
use Rattle.intake.specs.Steps.{calls_of_item, call_count}
use Rattle.intake.specs.Reaching.{datagram_calls, EveryDatagram, OneMade, EveryItem}
use Rattle.intake.specs.ReducedSize.{EveryDatagramTaken}
use Rattle.intake.proofs.Laws.{length_calls}

calls_of_item_bound : (item : Item) → calls_of_item item ≤ 1
calls_of_item_bound (Item.Report r) = omega arith
calls_of_item_bound (Item.Farewell source) = omega arith
calls_of_item_bound (Item.Settings s) = omega arith

calls_of_items : (items : List Placed) → call_count items ≤ length items
unfolding call_count
calls_of_items [] = omega arith
calls_of_items (x ∷ xs) = omega (arith, calls_of_item_bound x.item, calls_of_items xs)

-- As many numbers as the datagram has items are enough, and so are 512.
pub enough_numbers :
    (reduced : Bool) (d : List ℕ) (n : ℕ) (origin : Origin) (at : Reading) → item_count reduced d ≡ Ok n
    → (length (calls_in origin at (datagram_items d)) ≤ n) × (n ≤ 512)
enough_numbers reduced d n origin at e =
    let bound : _ = count_bound reduced d n e in
    let items : _ = datagram-passed reduced d n e in (
      omega (arith, length_calls origin at (datagram_items d), calls_of_items (datagram_items d), items.1),
      omega (arith, bound.0, bound.1),
    )

-- ---- demand 3

-- the bytes of a report bound its received time
item_in_range :
    (d : List ℕ) (origin : Origin) (at : Reading) {x : Placed} → AreBytes d → ReadFrom d x
    → AllInRange (calls_of origin at x.item)
unfolding report_at AllInRange
item_in_range d origin at h (report sender place r w l) = (be64_bound d (place + 16) h, tt)
item_in_range d origin at h (setting p v t l) = tt
item_in_range d origin at h (farewell place source) = (tt, tt)

calls_in_range :
    (d : List ℕ) (origin : Origin) (at : Reading) {items : List Placed} → AreBytes d → All (ReadFrom d) items
    → AllInRange (calls_in origin at items)
unfolding calls_in AllInRange
calls_in_range d origin at h none = tt
calls_in_range d origin at h (also {x} {l} here rest) =
    ranges-append (calls_of origin at x.item) (calls_in origin at l) (item_in_range d origin at h here)
    (calls_in_range d origin at h rest)

-- Each call of a datagram of bytes that is not refused is in range.
pub datagram_in_range :
    (reduced : Bool) (d : List ℕ) (origin : Origin) (at : Reading) → AreBytes d → datagram_check reduced d ≡ passed
    → AllInRange (datagram_calls d origin at)
datagram_in_range reduced d origin at h check =
    calls_in_range d origin at h (items_read d (passes_agreed reduced d check))

-- Of every datagram of bytes all calls are made, and answered as the register answers them, or none is.
pub datagram-reached : EveryDatagram
unfolding datagram_answered answers_after records_of
datagram-reached o calls t ms here reduced d h origin at lent =
    record {
      made = λ check room.
          let more = datagram_calls d origin at in
          let ranges : AllInRange more = datagram_in_range reduced d origin at h check in
          let enough : ltb (length lent) (length more) ≡ false = le-ltb (length lent) (length more) room in
          let behind : drop (length calls) (answers o [] (calls ++ more)) ≡ answers o (records_of ms) more =
          rw (here.members_are, rows_after-all o [] calls) (answers-behind o calls more) in
          record {
            reached = rw (check, enough) (reached_further o calls t ms more here ranges);
            numbers = rw (check, enough, behind, reached-answers o calls t ms more here) refl;
            number = rw (check, enough) refl;
            place = rw (check, enough) refl;
            count = rw (check, enough) refl;
          };
      unread = λ number place check.
          record {
            reached = rw check here;
            numbers = rw check refl;
            number = rw check refl;
            place = rw check refl;
            count = rw check refl;
          };
      short = λ check less.
          let many : ltb (length lent) (length (datagram_calls d origin at)) ≡ true = lt-ltb _ _ less in
          record {
            reached = rw (check, many) here;
            numbers = rw (check, many) refl;
            number = rw (check, many) refl;
            place = rw (check, many) refl;
            count = rw (check, many) refl;
          };
    }

module _ (o : Opening) (calls : List Call) (t : Table) (ms : Members) (here : Reached o calls t ms) where
  call_made : (call : Call) → AllInRange (call ∷ []) → OneMade o calls t ms call (call_taken t call)
  unfolding table_from answers_from members_after_all answers
  call_made call ranges =
      let same : (answered t call).number ∷ [] ≡ answer o (records_of ms) call ∷ [] =
      reached-answers o calls t ms (call ∷ []) here in
      record { reached = reached_further o calls t ms (call ∷ []) here ranges; outcome = cc }

-- Every item of it, taken in by its index, is one call, answered as the register answers it, or changes nothing.
pub item-reached : EveryItem
unfolding taken
item-reached o calls t ms here reduced d h index origin at =
    record {
      report = λ place r e. made (item_in_range d origin at h (item-read reduced d index _ e));
      farewell = λ place source e. made (item_in_range d origin at h (item-read reduced d index _ e));
      settings = λ place s e. refl;
    }
  where
    made : {call : Call} → AllInRange (call ∷ []) → OneMade o calls t ms call (call_taken t call)
    made {call} = call_made o calls t ms here call

-- ---- reduced size

first_by_number : (number : RefusalNumber) → refusal_number number ≡ bad_first → number ≡ RefusalNumber.BadFirst
first_by_number number e = grind (arith, common_steps)

module _ (t : Table) (calls : List Call) (lent : List ℕ) where
  answered_not_four :
      (k : Check) → Refuses (λ (number : RefusalNumber) (place : ℕ). number ≡ RefusalNumber.BadFirst → ⊥) k
      → (answered_unless k t calls lent).number ≡ bad_first → ⊥
  answered_not_four (refused number place) h four = h number place refl (first_by_number number four)
  answered_not_four passed h four = go (ltb (length lent) (length calls)) refl
    where
      go : (b : Bool) → ltb (length lent) (length calls) ≡ b → ⊥
      go true b = omega (arith, rw b at four)
      go false b = omega (arith, rw b at four)

-- Change request E2, for every datagram that is taken in.
pub every_datagram_taken : EveryDatagramTaken
unfolding datagram_answered answers_after
every_datagram_taken =
    record {
      alike = λ d t origin at lent h.
          let calls = datagram_calls d origin at in
          let same : datagram_check true d ≡ datagram_check false d =
          datagram-alike d (λ e. h (ap (λ (k : Check). (answered_unless k t calls lent).number) e)) in (
            ap (λ (k : Check). answered_unless k t calls lent) same,
            ap (λ (k : Check). numbers_unless k t calls lent) same,
          );
      never_four = λ d t origin at lent.
          answered_not_four t (datagram_calls d origin at) lent (datagram_check true d) (datagram_not_four d);
    }
