-- What a caller may rely on, beyond each call's own contract: which numbers a refusal has, and how the count, the item
-- at an index and the cursor agree.
use Prim.Native.Nat.{ℕ, ◌*◌, ◌%◌, ◌≤◌}
use Rattle.std.specs.Prelude.{Result, Ok, Err}
use Rattle.refusals.specs.declared.RefusalNumber.{RefusalNumber}
use Rattle.refusals.specs.Refusals.{refusal_number}
use mathlib.Core.Path.{◌≡◌, refl, sym, ap, ◌∙◌}
use mathlib.Core.List.{List}
use mathlib.Core.Logic.{◌↔◌, ◌⊎◌}
use mathlib.Core.Bool.{Bool, true, false, not, ◌||◌}
use lib.ListN.{length}
use lib.Dec.{ltb, eqb}
use native.Mathlib.Omega.{arith}
use borrow.Author.Tests.{ltb-true, ltb-false}
use Rattle.idms.specs.declared.Placed.{Placed}
use Rattle.idms.specs.declared.Refusal.{Refusal}
use Rattle.packet.specs.Checks.{Check, passed, refused}
use Rattle.packet.specs.Packet.{size}
use Rattle.packet.proofs.Laws.Bools.{or_false}
use Rattle.packet.proofs.Laws.Checks.{check_passes}
use Rattle.datagram.specs.Datagram.{packet_check, packet_items, length_is_bad, datagram_check, datagram_items, DatagramNumber}
use Rattle.datagram.specs.Answers.{refusal, item_count}
use Rattle.datagram.proofs.Theorems.{datagram_numbered, passes_agreed}
use Rattle.datagram.proofs.Laws.Walk.{gives_bound}
use Rattle.datagram.proofs.Laws.Datagram.{packets_roomy}
use Rattle.datagram.proofs.Laws.Answers.{datagram-passed, datagram-refused, count-of-refused}
use Rattle.rtcp.specs.Cursor.{start, given}
use Rattle.rtcp.specs.Answers.{item_of, cursor_on}
use Rattle.rtcp.specs.Rows.{rows_answer}
use Rattle.rtcp.proofs.Laws.Answers.{item_refused, item-past, item-there}
use Rattle.rtcp.proofs.Laws.Refusals.{count-refusals, cursor-refusals}
use Rattle.rtcp.proofs.Laws.Refusals.{item-refusals, rows-refusals}
use Rattle.rtcp.proofs.Laws.Cursor.{cursor_gives_items}

-- ---- the numbers that the calls refuse with: 1 to 7, beside them 9 for an index and 10 for an array, and never 0

module _ (reduced : Bool) (d : List ℕ) where
  pub count_numbered : (r : Refusal) → item_count reduced d ≡ Err r → DatagramNumber r.number
  count_numbered = count-refusals DatagramNumber reduced d (datagram_numbered reduced d)

  pub opened_numbered : (r : Refusal) → cursor_on reduced d ≡ Err r → DatagramNumber r.number
  opened_numbered = cursor-refusals DatagramNumber reduced d (datagram_numbered reduced d)

  pub item_numbered :
      (index : ℕ) (r : Refusal) → item_of reduced d index ≡ Err r
      → DatagramNumber r.number ⊎ (r.number ≡ RefusalNumber.NoSuchItem)
  item_numbered = item-refusals DatagramNumber reduced d (datagram_numbered reduced d)

  pub rows_numbered :
      (rows : List ℕ) (r : Refusal) → rows_answer reduced d rows ≡ Err r
      → DatagramNumber r.number ⊎ (r.number ≡ RefusalNumber.ShortBuffer)
  rows_numbered = rows-refusals DatagramNumber reduced d (datagram_numbered reduced d)

-- ---- the count and the items agree

-- the count with the refusal of an item's answer
abbrev count_refused : Result Placed Refusal → Result ℕ Refusal
count_refused (Ok x) = Ok 0
count_refused (Err r) = Err r

-- The count is refused with a number and a place exactly when every index answers with them, and the number is not 9.
pub refused_everywhere :
    (reduced : Bool) (d : List ℕ) (n : RefusalNumber) (p : ℕ)
    → (item_count reduced d ≡ Err (refusal n p))
    ↔ (((index : ℕ) → item_of reduced d index ≡ Err (refusal n p)) × (n ≡ RefusalNumber.NoSuchItem → ⊥))
refused_everywhere reduced d n p = (there, back (datagram_check reduced d) refl)
  where
    there :
        item_count reduced d ≡ Err (refusal n p)
        → ((index : ℕ) → item_of reduced d index ≡ Err (refusal n p)) × (n ≡ RefusalNumber.NoSuchItem → ⊥)
    there e =
        let k : datagram_check reduced d ≡ refused n p = datagram-refused reduced d (refusal n p) e in
        ((λ index. item_refused reduced d index n p k), λ nine. omega (arith, ap refusal_number nine, datagram_numbered reduced d n p k))

    back :
        (k : Check) → datagram_check reduced d ≡ k
        → ((index : ℕ) → item_of reduced d index ≡ Err (refusal n p)) × (n ≡ RefusalNumber.NoSuchItem → ⊥)
        → item_count reduced d ≡ Err (refusal n p)
    back passed k h =
        let past : _ = item-past reduced d (length (datagram_items d)) k (omega arith) in
        let same : refusal n p ≡ refusal RefusalNumber.NoSuchItem 0 = cc (h.0 (length (datagram_items d))) in
        absurd (h.1 (ap (λ (r : Refusal). r.number) same))
    back (refused m q) k h =
        count-of-refused reduced d m q k ∙ ap count_refused (sym (item_refused reduced d 0 m q k) ∙ h.0 0)

-- An accepted datagram answers 9 at place 0 exactly for the indices not below its count.
pub nine_past_the_count :
    (reduced : Bool) (d : List ℕ) (n index : ℕ) → item_count reduced d ≡ Ok n
    → (item_of reduced d index ≡ Err (refusal RefusalNumber.NoSuchItem 0)) ↔ (n ≤ index)
nine_past_the_count reduced d n index e = (there (ltb index n) refl, back)
  where
    known : (datagram_check reduced d ≡ passed) × (n ≡ length (datagram_items d))
    known = datagram-passed reduced d n e

    there : (t : Bool) → ltb index n ≡ t → item_of reduced d index ≡ Err (refusal RefusalNumber.NoSuchItem 0) → n ≤ index
    there true t h =
        let found : _ = item-there reduced d index known.0 (omega (arith, ltb-true index n t, known.1)) in
        absurd cc
    there false t h = ltb-false index n t

    back : n ≤ index → item_of reduced d index ≡ Err (refusal RefusalNumber.NoSuchItem 0)
    back h = item-past reduced d index known.0 (omega (arith, known.1))

-- No index gives an item of a refused datagram.
pub no_item_of_a_refused :
    (reduced : Bool) (d : List ℕ) (r : Refusal) (index : ℕ) (x : Placed)
    → item_count reduced d ≡ Err r → item_of reduced d index ≡ Ok x → ⊥
no_item_of_a_refused reduced d r index x e f =
    let g : _ = item_refused reduced d index r.number r.place (datagram-refused reduced d r e) in
    cc

-- Every item takes a word of its datagram, of which there are at most 512.
pub count_bound :
    (reduced : Bool) (d : List ℕ) (n : ℕ) → item_count reduced d ≡ Ok n
    → (4 * n ≤ length d) × (length d ≤ 2048)
unfolding datagram_check datagram_items
count_bound reduced d n e =
    let m : _ = datagram-passed reduced d n e in
    let k : _ = check_passes (length_is_bad (length d)) _ _ _ m.0 in
    let short : length d ≤ 2048 =
    ltb-false 2048 (length d)
    (or_false (eqb (length d) 0 || not (eqb (length d % 4) 0)) (ltb 2048 (length d)) k.0).1 in
    let room : _ =
    gives_bound (packet_check reduced d) (packet_items d) (size d) (length d) (λ k. omega arith)
    (packets_roomy reduced d) 0 k.1 in
    (omega (arith, m.1, room), short)

-- From the start, a cursor gives item 0, 1, .. count − 1 in turn and then the end, however often it is asked.
pub cursor-in_turn :
    (reduced : Bool) (d : List ℕ) (n k : ℕ) → item_count reduced d ≡ Ok n → n ≤ k
    → given k d start ≡ datagram_items d
cursor-in_turn reduced d n k e h =
    let m : _ = datagram-passed reduced d n e in
    cursor_gives_items d k (passes_agreed reduced d m.0) (omega (arith, m.1))
