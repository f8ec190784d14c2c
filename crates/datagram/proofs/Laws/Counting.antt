-- What the loops over blocks and packets keep: the count that is left to answer never changes.
use Prim.Native.Nat.{ℕ, ◌+◌, ◌*◌, ◌≤◌, ◌<◌}
use Rattle.std.specs.Prelude.{Result, Ok, Err}
use mathlib.Core.Path.{◌≡◌, sym, ap, ◌∙◌}
use mathlib.Core.List.{List}
use mathlib.Core.Bool.{Bool}
use lib.ListN.{length}
use native.Mathlib.Omega.{arith}
use Rattle.refusals.specs.declared.RefusalNumber.{RefusalNumber}
use Rattle.idms.specs.declared.Placed.{Placed}
use Rattle.idms.specs.declared.Refusal.{Refusal}
use Rattle.packet.specs.declared.header.Head.{Head}
use Rattle.packet_checks.specs.declared.block.Block.{Block}
use Rattle.packet.specs.Checks.{passed, refused}
use Rattle.packet.specs.Packet.{size}
use Rattle.packet.specs.Report.{block_size, block_check, block_items}
use Rattle.packet.specs.Contents.{contents}
use Rattle.packet.specs.Answers.{head_is, block_is}
use Rattle.packet.proofs.Laws.Packet.{head_is_passed, head_is_refused}
use Rattle.packet.proofs.Laws.Blocks.{met_report, met_skipped, met_refused, items_none, items_one}
use Rattle.datagram.specs.Datagram.{parts_check, packet_check, packet_items}
use Rattle.datagram.specs.Answers.{refusal, parts_count}
use Rattle.datagram.proofs.Laws.Walk.{tally, tally_refused, tally_part, count_items_lem, count-refused}
use Rattle.datagram.proofs.Laws.Datagram.{check_refused, check_of, packets_roomy}

-- ---- blocks

-- the answer at a block up to a stop, with n items counted before it
abbrev pub blocks_left : List ℕ → ℕ → ℕ → ℕ → ℕ → Result ℕ Refusal
blocks_left d sender stop n at = tally (block_check d stop) (block_items d sender) (block_size d) stop n at

-- a block of some bytes was counted
pub record BlockCounted (d : List ℕ) (sender stop n at items bytes : ℕ) : Type 0 where
  pub inside : at + bytes ≤ stop
  pub whole : 4 ≤ bytes
  pub rest : blocks_left d sender stop n at ≡ blocks_left d sender stop (n + items) (at + bytes)

module _ (d : List ℕ) (sender stop n at : ℕ) (here : at < stop) where
  pub block_refused :
      (number : RefusalNumber) → block_is d stop at ≡ Err number
      → blocks_left d sender stop n at ≡ Err (refusal number at)
  block_refused number e =
      tally_refused (block_check d stop) (block_items d sender) (block_size d) stop (λ k. omega arith) n at number at here
      (met_refused d stop at number e)

  pub report-counted : block_is d stop at ≡ Ok Block.Report → BlockCounted d sender stop n at 1 32
  report-counted e =
      let m : _ = met_report d stop at e in
      record {
        inside = m.0.inside;
        whole = omega arith;
        rest =
            tally_part (block_check d stop) (block_items d sender) (block_size d) stop (λ k. omega arith) n at 1 32 here
            m.0.check
            (sym (ap (λ (l : List Placed). length l) (items_one d sender at m.1)))
            m.0.size;
      }

  pub skipped_counted : (bytes : ℕ) → block_is d stop at ≡ Ok (Block.Skipped bytes) → BlockCounted d sender stop n at 0 bytes
  skipped_counted bytes e =
      let m : _ = met_skipped d stop at bytes e in
      record {
        inside = m.0.inside;
        whole = omega (arith, m.0.size);
        rest =
            tally_part (block_check d stop) (block_items d sender) (block_size d) stop (λ k. omega arith) n at 0 bytes here
            m.0.check
            (sym (ap (λ (l : List Placed). length l) (items_none d sender at m.1)))
            m.0.size;
      }

-- ---- packets

-- the answer at a packet, with n items counted before it
abbrev pub packets_left : Bool → List ℕ → ℕ → ℕ → Result ℕ Refusal
packets_left reduced d n p = tally (packet_check reduced d) (packet_items d) (size d) (length d) n p

pub record PacketCounted (reduced : Bool) (d : List ℕ) (n p items bytes : ℕ) : Type 0 where
  pub inside : p + bytes ≤ length d
  pub whole : 4 ≤ bytes
  pub few : 4 * items ≤ bytes
  pub rest : packets_left reduced d n p ≡ packets_left reduced d (n + items) (p + bytes)

module _ (reduced : Bool) (d : List ℕ) (n p : ℕ) (here : p < length d) where
  left-refused :
      (number : RefusalNumber) (place : ℕ) → packet_check reduced d p ≡ refused number place
      → packets_left reduced d n p ≡ Err (refusal number place)
  left-refused number place e =
      tally_refused (packet_check reduced d) (packet_items d) (size d) (length d) (λ k. omega arith) n p number place here e

  pub head_refused :
      (number : RefusalNumber) → head_is reduced d p ≡ Err number
      → packets_left reduced d n p ≡ Err (refusal number p)
  head_refused number e =
      left-refused number p (check_refused reduced d p number p (head_is_refused reduced d p number e))

  -- a packet whose header has passed
  module _ (h : Head) (passes : head_is reduced d p ≡ Ok h) where
    check_of_parts : packet_check reduced d p ≡ parts_check d (contents d p)
    check_of_parts = check_of reduced d p (head_is_passed reduced d p h passes).0

    pub parts_refused :
        (r : Refusal) → parts_count d p ≡ Err r
        → packets_left reduced d n p ≡ Err (refusal r.number r.place)
    parts_refused r e =
        left-refused _ _
        (check_of_parts ∙ count-refused (parts_check d (contents d p)) (length (packet_items d p)) r e)

    pub packet_counted :
        (items : ℕ) → parts_count d p ≡ Ok items → PacketCounted reduced d n p items h.bytes
    packet_counted items e =
        let m : _ = count_items_lem (parts_check d (contents d p)) (length (packet_items d p)) items e in
        let check : packet_check reduced d p ≡ passed = check_of_parts ∙ m.0 in
        let room : _ = packets_roomy reduced d p here check in
        let bytes : h.bytes ≡ size d p = ap (λ (x : Head). x.bytes) (head_is_passed reduced d p h passes).1 in
        record {
          inside = omega (arith, room.0, bytes);
          whole = omega (arith, bytes);
          few = omega (arith, room.1, m.1, bytes);
          rest =
              tally_part (packet_check reduced d) (packet_items d) (size d) (length d) (λ k. omega arith) n p items h.bytes
              here
              check
              m.1
              bytes;
        }
