-- Laws of one packet's checks and items, by what it holds, once its header has passed; and of the packets in turn.
use Prim.Native.Nat.{ℕ, suc, zero, ◌+◌, ◌*◌, ◌≤◌, ◌<◌}
use mathlib.Core.Path.{◌≡◌, refl, sym, ap, ◌∙◌}
use mathlib.Core.List.{List, [], ◌∷◌, ◌++◌}
use mathlib.Core.Bool.{Bool}
use lib.ListN.{length}
use native.Mathlib.Omega.{arith}
use Rattle.refusals.specs.declared.RefusalNumber.{RefusalNumber}
use Rattle.idms.specs.declared.Placed.{Placed}
use Rattle.packet_checks.specs.declared.kind.PacketType.{PacketType}
use Rattle.packet.specs.declared.contents.Packet.{Packet}
use Rattle.packet.specs.Checks.{passed, refused}
use Rattle.packet.specs.Bytes.{be32}
use Rattle.packet.specs.Packet.{version, count, kind, size, content, head_check}
use Rattle.packet.specs.Report.{block_size, block_check, block_items, reports}
use Rattle.packet.specs.Farewell.{farewell_item}
use Rattle.packet.specs.Contents.{contents_of, contents}
use Rattle.packet.proofs.Laws.Checks.{both_pass}
use Rattle.packet.proofs.Laws.Packet.{Readable, head_version, head_passed}
use Rattle.packet.proofs.Laws.Contents.{Holds, unread, sources, blocks, setting, holds}
use Rattle.packet.proofs.Laws.Blocks.{block_inside, length-block_items, one_or_none}
use Rattle.datagram.specs.Datagram.{source_items, blocks_check, blocks_items, parts_check, packet_check, parts_items, packet_items, packets_check, packets_items}
use Rattle.datagram.specs.Answers.{count_unless, parts_count}
use Rattle.datagram.proofs.Laws.Walk.{walk-part, walk_end, check_each-part, gives_part, gives_end, Roomy, gives_bound}

-- ---- source_items

pub sources_part :
    (d : List ℕ) (stop at : ℕ) → at < stop → source_items d stop at ≡ farewell_item d at ∷ source_items d stop (at + 4)
sources_part d stop at h =
    walk-part (λ (k : ℕ) (later : List Placed). (farewell_item d k ∷ []) ++ later) [] (λ (k : ℕ). 4) stop (λ k. omega arith) at h

pub sources_end : (d : List ℕ) (stop at : ℕ) → stop ≤ at → source_items d stop at ≡ []
sources_end d stop at h =
    walk_end (λ (k : ℕ) (later : List Placed). (farewell_item d k ∷ []) ++ later) [] (λ (k : ℕ). 4) stop (λ k. omega arith) at h

-- a source for each of the count
pub length-source_items : (d : List ℕ) (n stop at : ℕ) → stop ≡ at + 4 * n → length (source_items d stop at) ≡ n
length-source_items d zero stop at e = rw (sources_end d stop at (omega arith))
length-source_items d (suc n) stop at e =
    rw (sources_part d stop at (omega arith)) (ap suc (length-source_items d n stop (at + 4) (omega arith)))

-- ---- blocks_check and blocks_items, at a block of a packet that has passed

pub record BlocksTurn (d : List ℕ) (sender stop at : ℕ) : Type 0 where
  pub check : block_check d stop at ≡ passed
  pub inside : at + block_size d at ≤ stop
  pub later : blocks_check d stop (at + block_size d at) ≡ passed
  pub items : blocks_items d sender stop at ≡ block_items d sender at ++ blocks_items d sender stop (at + block_size d at)

pub blocks_turn :
    (d : List ℕ) (sender stop at : ℕ) → at < stop → blocks_check d stop at ≡ passed → BlocksTurn d sender stop at
blocks_turn d sender stop at h e =
    let both : _ =
    both_pass (block_check d stop at) (blocks_check d stop (at + block_size d at))
    (sym (check_each-part (block_check d stop) (block_items d sender) (block_size d) stop (λ k. omega arith) at h) ∙ e) in
    record {
      check = both.0;
      inside = (block_inside d stop at both.0).0;
      later = both.1;
      items = gives_part (block_check d stop) (block_items d sender) (block_size d) stop (λ k. omega arith) at h;
    }

pub blocks_end : (d : List ℕ) (sender stop at : ℕ) → stop ≤ at → blocks_items d sender stop at ≡ []
blocks_end d sender stop at h = gives_end (block_check d stop) (block_items d sender) (block_size d) stop (λ k. omega arith) at h

-- ---- packet_check and packet_items, by what the packet holds

module _ (reduced : Bool) (d : List ℕ) (p : ℕ) where
  pub check_refused :
      (number : RefusalNumber) (place : ℕ) → head_check reduced d p ≡ refused number place → packet_check reduced d p ≡ refused number place
  unfolding packet_check
  check_refused number place h = rw h

  pub check_of : head_check reduced d p ≡ passed → packet_check reduced d p ≡ parts_check d (contents d p)
  unfolding packet_check
  check_of h = rw h

  pub check_passed :
      packet_check reduced d p ≡ passed → (head_check reduced d p ≡ passed) × (parts_check d (contents d p) ≡ passed)
  unfolding packet_check
  check_passed e = both_pass (head_check reduced d p) (parts_check d (contents d p)) e

pub items_of : (d : List ℕ) (p : ℕ) {x : Packet} → contents d p ≡ x → packet_items d p ≡ parts_items d p x
unfolding packet_items
items_of d p e = ap (parts_items d p) e

-- the count of a packet by its type
pub count_of_type :
    (d : List ℕ) (p : ℕ) (t : PacketType) → kind d p ≡ t
    → parts_count d p ≡ count_unless (parts_check d (contents_of d p t)) (length (parts_items d p (contents_of d p t)))
unfolding packet_items
count_of_type d p t e = ap (λ (x : Packet). count_unless (parts_check d x) (length (parts_items d p x))) (ap (contents_of d p) e)

-- ---- an upper bound: no more items than words

blocks_roomy : (d : List ℕ) (sender stop : ℕ) → Roomy (block_check d stop) (block_items d sender) (block_size d) stop (λ k. omega arith)
blocks_roomy d sender stop at h e =
    ((block_inside d stop at e).0, rw (length-block_items d sender at) (omega (arith, one_or_none (reports d at))))

packet_room :
    (d : List ℕ) (p : ℕ) → Readable d p → parts_check d (contents d p) ≡ passed → 4 * length (packet_items d p) ≤ size d p
packet_room d p known e = go refl (holds d p known)
  where
    go : {x : Packet} → contents d p ≡ x → Holds d p x → 4 * length (packet_items d p) ≤ size d p
    go f unread = rw (items_of d p f) (omega arith)
    go f (sources least l h) =
        rw (items_of d p f, length-source_items d (count d p) (p + least) (p + 4) (omega (arith, l)))
        (omega (arith, l, h, known.inside))
    go f (blocks h) =
        rw (items_of d p f)
        (omega (
          arith,
          known.inside,
          gives_bound (block_check d (p + content d p)) (block_items d (be32 d (p + 4))) (block_size d) (p + content d p)
              (λ k. omega arith)
              (blocks_roomy d (be32 d (p + 4)) (p + content d p))
              (p + 8)
              (sym (ap (parts_check d) f) ∙ e),
        ))
    go f (setting t h) = rw (items_of d p f) (omega (arith, h, known.inside))

pub packets_roomy :
    (reduced : Bool) (d : List ℕ) → Roomy (packet_check reduced d) (packet_items d) (size d) (length d) (λ k. omega arith)
packets_roomy reduced d p h e =
    let both : _ = check_passed reduced d p e in
    let known : Readable d p = head_passed reduced d p both.0 in
    (known.fits, packet_room d p known both.1)

-- ---- packets_check and packets_items, at a packet of a datagram that has passed

pub record PacketsTurn (reduced : Bool) (d : List ℕ) (p : ℕ) : Type 0 where
  pub version_two : version d p ≡ 2
  pub known : Readable d p
  pub parts : parts_check d (contents d p) ≡ passed
  pub later : packets_check reduced d (p + size d p) ≡ passed
  pub items : packets_items d p ≡ packet_items d p ++ packets_items d (p + size d p)

pub packets_turn :
    (reduced : Bool) (d : List ℕ) (p : ℕ) → p < length d → packets_check reduced d p ≡ passed → PacketsTurn reduced d p
packets_turn reduced d p h e =
    let both : _ =
    both_pass (packet_check reduced d p) (packets_check reduced d (p + size d p))
    (sym (check_each-part (packet_check reduced d) (packet_items d) (size d) (length d) (λ k. omega arith) p h) ∙ e) in
    let here : _ = check_passed reduced d p both.0 in
    record {
      version_two = head_version reduced d p here.0;
      known = head_passed reduced d p here.0;
      parts = here.1;
      later = both.1;
      items = gives_part (packet_check reduced d) (packet_items d) (size d) (length d) (λ k. omega arith) p h;
    }

pub packets_end : (d : List ℕ) (p : ℕ) → length d ≤ p → packets_items d p ≡ []
packets_end d p h =
    walk_end (λ (k : ℕ) (later : List Placed). packet_items d k ++ later) [] (size d) (length d) (λ k. omega arith) p h
