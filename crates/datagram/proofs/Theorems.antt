-- What a caller may rely on, beyond each call's own contract: which numbers a datagram is refused with, and what
-- reduced size changes (E2).
use Prim.Native.Nat.{ℕ, suc, zero, ◌+◌, ◌-◌, ◌%◌, ◌≤◌, ◌<◌}
use Rattle.refusals.specs.declared.RefusalNumber.{RefusalNumber}
use Rattle.refusals.specs.Refusals.{refusal_number}
use mathlib.Core.Path.{◌≡◌, refl, sym, ap, ap₂, ◌∙◌}
use mathlib.Core.List.{List}
use mathlib.Core.Bool.{Bool, true, false, not, ◌||◌}
use lib.ListN.{length}
use lib.Dec.{ltb, eqb}
use native.Mathlib.Omega.{arith}
use borrow.Author.Tests.{ltb-true, ltb-false, eqb-false}
use Rattle.packet.specs.declared.contents.Packet.{Packet}
use Rattle.packet.specs.Checks.{Check, passed, refused, and_then, refuse_if}
use Rattle.packet.specs.Packet.{size, head_check}
use Rattle.packet.specs.Report.{block_size, block_check}
use Rattle.packet.specs.Contents.{contents}
use Rattle.packet.proofs.Laws.Bools.{or_false}
use Rattle.packet.proofs.Laws.Checks.{Refuses, passed_refuses, refuse_if_refuses, and_then_refuses}
use Rattle.packet.proofs.Theorems.{head_numbered, block_numbered}
use Rattle.packet.proofs.ReducedSize.{agreed_not_four, alike_unless_first, alike-behind}
use Rattle.datagram.specs.Datagram.{parts_check, packet_check, packet_items, packets_check}
use Rattle.datagram.specs.Datagram.{length_is_bad, datagram_check, DatagramNumber}
use Rattle.datagram.proofs.Laws.Walk.{check_each-part, check_each_end, check_each_refuses}

-- ---- what holds of every header's and every block's refusals, and of 1, holds of the datagram's

module _ (P : RefusalNumber → ℕ → Type 0) (d : List ℕ) (block : (stop at : ℕ) → Refuses P (block_check d stop at)) where
  parts_refuses : (x : Packet) → Refuses P (parts_check d x)
  parts_refuses (Packet.Unread next) = passed_refuses P
  parts_refuses (Packet.Sources first stop next) = passed_refuses P
  parts_refuses (Packet.Blocks sender first stop next) =
      check_each_refuses P (block_check d stop) (block_size d) stop first (block stop)
  parts_refuses (Packet.Settings next) = passed_refuses P

  module _ (reduced : Bool) (head : (p : ℕ) → Refuses P (head_check reduced d p)) where
    packet_refuses : (p : ℕ) → Refuses P (packet_check reduced d p)
    unfolding packet_check
    packet_refuses p =
        and_then_refuses P (head_check reduced d p) (parts_check d (contents d p)) (head p) (parts_refuses (contents d p))

    datagram_refuses : P RefusalNumber.BadLength 0 → Refuses P (datagram_check reduced d)
    unfolding datagram_check
    datagram_refuses one =
        refuse_if_refuses P (length_is_bad (length d)) _ 0 _ one
        (check_each_refuses P (packet_check reduced d) (size d) (length d) 0 packet_refuses)

abbrev pub Numbered : Check → Type 0
Numbered check = Refuses (λ (number : RefusalNumber) (place : ℕ). DatagramNumber number) check

-- A datagram is refused with a number of 1 to 7.
pub datagram_numbered : (reduced : Bool) (d : List ℕ) → Numbered (datagram_check reduced d)
datagram_numbered reduced d =
    datagram_refuses (λ (number : RefusalNumber) (place : ℕ). DatagramNumber number) d
    (λ stop at number place e.
    let n : _ = block_numbered d stop at number place e in (omega (arith, n.0), omega (arith, n.1)))
    reduced
    (λ p number place e.
    let n : _ = head_numbered reduced d p number place e in (omega (arith, n.0), omega (arith, n.1)))
    (omega arith, omega arith)

-- Where reduced size was agreed, it is not refused with 4.
pub datagram_not_four :
    (d : List ℕ) → Refuses (λ (number : RefusalNumber) (place : ℕ). number ≡ RefusalNumber.BadFirst → ⊥) (datagram_check true d)
datagram_not_four d =
    datagram_refuses (λ (number : RefusalNumber) (place : ℕ). number ≡ RefusalNumber.BadFirst → ⊥) d
    (λ stop at number place e four. omega (arith, ap refusal_number four, (block_numbered d stop at number place e).0))
    true
    (agreed_not_four d)
    (λ four. omega (arith, ap refusal_number four))

-- ---- reduced size changes an answer of 4 at the first packet, and no other

packet_alike : (reduced : Bool) (d : List ℕ) (p : ℕ) → (p ≡ 0 → ⊥) → packet_check reduced d p ≡ packet_check true d p
unfolding packet_check
packet_alike reduced d p z = ap (λ (k : Check). and_then k (parts_check d (contents d p))) (alike-behind reduced d p z)

module _ (reduced : Bool) (d : List ℕ) where
  packets_part :
      (p : ℕ) → p < length d
      → packets_check reduced d p ≡ and_then (packet_check reduced d p) (packets_check reduced d (p + size d p))
  packets_part p h = check_each-part (packet_check reduced d) (packet_items d) (size d) (length d) (λ k. omega arith) p h

  packets_none : (p : ℕ) → length d ≤ p → packets_check reduced d p ≡ passed
  packets_none p h = check_each_end (packet_check reduced d) (packet_items d) (size d) (length d) (λ k. omega arith) p h

-- behind the first packet
packets_alike : (reduced : Bool) (d : List ℕ) (p : ℕ) → (p ≡ 0 → ⊥) → packets_check reduced d p ≡ packets_check true d p
packets_alike reduced d p z = go (length d) p z (omega arith)
  where
    go : (k p : ℕ) → (p ≡ 0 → ⊥) → length d - p ≤ k → packets_check reduced d p ≡ packets_check true d p
    go zero p z h = packets_none reduced d p (omega arith) ∙ sym (packets_none true d p (omega arith))
    go (suc k) p z h = turn (ltb p (length d)) refl (go k (p + size d p) (λ e. omega (arith, e)) (omega arith))
      where
        turn :
            (t : Bool) → ltb p (length d) ≡ t
            → packets_check reduced d (p + size d p) ≡ packets_check true d (p + size d p)
            → packets_check reduced d p ≡ packets_check true d p
        turn true t rest =
            let here : p < length d = ltb-true p (length d) t in
            packets_part reduced d p here
            ∙ ap₂ and_then (packet_alike reduced d p z) rest
            ∙ sym (packets_part true d p here)
        turn false t rest =
            let past : length d ≤ p = ltb-false p (length d) t in
            packets_none reduced d p past ∙ sym (packets_none true d p past)

module _ (d : List ℕ) (some : 0 < length d) where
  first_part :
      (reduced : Bool)
      → packets_check reduced d 0 ≡ and_then (packet_check reduced d 0) (packets_check true d (0 + size d 0))
  first_part reduced =
      packets_part reduced d 0 some
      ∙ ap (and_then (packet_check reduced d 0)) (packets_alike reduced d (0 + size d 0) (λ e. omega (arith, e)))

  first_refused : head_check false d 0 ≡ refused RefusalNumber.BadFirst 0 → packets_check false d 0 ≡ refused RefusalNumber.BadFirst 0
  unfolding packet_check
  first_refused e = first_part false ∙ rw e

  first_alike : (packets_check false d 0 ≡ refused RefusalNumber.BadFirst 0 → ⊥) → packets_check true d 0 ≡ packets_check false d 0
  unfolding packet_check
  first_alike h =
      let head : head_check true d 0 ≡ head_check false d 0 = alike_unless_first d 0 (λ e. h (first_refused e)) in
      first_part true
      ∙ ap (λ (k : Check). and_then (and_then k (parts_check d (contents d 0))) (packets_check true d (0 + size d 0))) head
      ∙ sym (first_part false)

-- Unless it is refused with 4 where reduced size was not agreed, a datagram is judged alike where it was.
pub datagram-alike :
    (d : List ℕ) → (datagram_check false d ≡ refused RefusalNumber.BadFirst 0 → ⊥) → datagram_check true d ≡ datagram_check false d
unfolding datagram_check
datagram-alike d h = go (length_is_bad (length d)) refl h
  where
    go :
        (t : Bool) → length_is_bad (length d) ≡ t
        → (refuse_if t RefusalNumber.BadLength 0 (packets_check false d 0) ≡ refused RefusalNumber.BadFirst 0 → ⊥)
        → refuse_if t RefusalNumber.BadLength 0 (packets_check true d 0) ≡ refuse_if t RefusalNumber.BadLength 0 (packets_check false d 0)
    go true t h = refl
    go false t h =
        let parts : _ = or_false (eqb (length d) 0 || not (eqb (length d % 4) 0)) (ltb 2048 (length d)) t in
        let empty : _ = or_false (eqb (length d) 0) (not (eqb (length d % 4) 0)) parts.0 in
        let some : 0 < length d = omega (arith, eqb-false (length d) 0 empty.0) in
        first_alike d some h

-- So what passes passes also where it was agreed.
pub passes_agreed : (reduced : Bool) (d : List ℕ) → datagram_check reduced d ≡ passed → datagram_check true d ≡ passed
passes_agreed true d e = e
passes_agreed false d e =
    datagram-alike d (λ four. cc (sym e ∙ four)) ∙ e
