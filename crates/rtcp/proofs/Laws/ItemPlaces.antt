-- The places that the items of a datagram are read from: every report is read from a block of type 12, role 1 and 8
-- words, every settings item from a packet of type 211, both whole in the datagram.
use Prim.Native.Nat.{ℕ, suc, zero, ◌+◌, ◌-◌, ◌≤◌, ◌<◌}
use Rattle.std.specs.Prelude.{Ok}
use mathlib.Core.Path.{◌≡◌, refl, sym, ap, ◌∙◌}
use mathlib.Core.List.{List, [], ◌∷◌, ◌++◌}
use mathlib.Core.Bool.{Bool, true, false}
use lib.ListN.{length, get_or}
use lib.Dec.{ltb}
use native.Mathlib.Omega.{arith}
use borrow.Author.Tests.{ltb-true, ltb-false}
use Rattle.idms.specs.declared.Item.{Item}
use Rattle.idms.specs.declared.Placed.{Placed}
use Rattle.packet.specs.declared.contents.Packet.{Packet}
use Rattle.packet.specs.Checks.{Check, passed, refused}
use Rattle.packet.specs.Packet.{version, packet_type, size, content}
use Rattle.packet.specs.Bytes.{be32}
use Rattle.packet.specs.Report.{block_length, block_size, reports, report_at}
use Rattle.packet.specs.Settings.{settings_item}
use Rattle.packet.specs.Contents.{contents}
use Rattle.packet.proofs.Laws.Checks.{check_passes}
use Rattle.packet.proofs.Laws.Contents.{Holds, unread, sources, blocks, holds}
use Rattle.packet.proofs.Laws.Blocks.{items_one, items_none, report_words_lem}
use Rattle.datagram.specs.Datagram.{source_items, blocks_check, blocks_items, parts_check, packet_items, packets_check, packets_items, datagram_check, datagram_items, length_is_bad}
use Rattle.datagram.proofs.Laws.Datagram.{sources_part, sources_end, BlocksTurn, blocks_turn, blocks_end, PacketsTurn, packets_turn, packets_end, items_of}
use Rattle.datagram.proofs.Theorems.{passes_agreed}
use Rattle.rtcp.specs.Answers.{item_of, nothing}
use Rattle.rtcp.proofs.Laws.Answers.{item_refused, item-past, item-there}

-- ---- what holds of every item of a list

pub data All (P : Placed → Type 0) : List Placed → Type 0 where
  none : All P []
  also : {x : Placed} {l : List Placed} → P x → All P l → All P (x ∷ l)

all_append : (P : Placed → Type 0) {l m : List Placed} → All P l → All P m → All P (l ++ m)
all_append P none b = b
all_append P (also p a) b = also p (all_append P a b)

all-at : (P : Placed → Type 0) (l : List Placed) (i : ℕ) (d : Placed) → All P l → i < length l → P (get_or l i d)
all-at P [] i d a h = absurd (omega arith)
all-at P (x ∷ l) zero d (also p a) h = p
all-at P (x ∷ l) (suc i) d (also p a) h = all-at P l i d a (omega arith)

-- ---- places

pub data ReadFrom (d : List ℕ) : Placed → Type 0 where
  report :
      (sender at : ℕ) → reports d at ≡ true → block_length d at ≡ 7 → at + 32 ≤ length d
      → ReadFrom d (record { place = at; item = Item.Report (report_at d sender at) })
  setting : (p : ℕ) → version d p ≡ 2 → packet_type d p ≡ 211 → p + 36 ≤ length d → ReadFrom d (settings_item d p)
  farewell : (at source : ℕ) → ReadFrom d (record { place = at; item = Item.Farewell source })

sources_read : (d : List ℕ) (k stop at : ℕ) → stop - at ≤ k → All (ReadFrom d) (source_items d stop at)
sources_read d zero stop at h = rw (sources_end d stop at (omega arith)) none
sources_read d (suc k) stop at h = go (ltb at stop) refl (sources_read d k stop (at + 4) (omega arith))
  where
    go :
        (t : Bool) → ltb at stop ≡ t → All (ReadFrom d) (source_items d stop (at + 4))
        → All (ReadFrom d) (source_items d stop at)
    go true t rest = rw (sources_part d stop at (ltb-true at stop t)) (also (farewell _ _) rest)
    go false t rest = rw (sources_end d stop at (ltb-false at stop t)) none

blocks_read :
    (d : List ℕ) (sender k stop at : ℕ) → stop - at ≤ k → stop ≤ length d → blocks_check d stop at ≡ passed
    → All (ReadFrom d) (blocks_items d sender stop at)
blocks_read d sender zero stop at h l e = rw (blocks_end d sender stop at (omega arith)) none
blocks_read d sender (suc k) stop at h l e =
    go (ltb at stop) refl (reports d at) refl
    (λ c. blocks_read d sender k stop (at + block_size d at) (omega arith) l c)
  where
    go :
        (t : Bool) → ltb at stop ≡ t → (r : Bool) → reports d at ≡ r
        → (blocks_check d stop (at + block_size d at) ≡ passed
        → All (ReadFrom d) (blocks_items d sender stop (at + block_size d at)))
        → All (ReadFrom d) (blocks_items d sender stop at)
    go false t r g rest = rw (blocks_end d sender stop at (ltb-false at stop t)) none
    go true t true g rest =
        let turn : BlocksTurn d sender stop at = blocks_turn d sender stop at (ltb-true at stop t) e in
        let words : block_length d at ≡ 7 = report_words_lem d stop at turn.check g in
        rw (turn.items, items_one d sender at g)
        (also (report sender at g words (omega (arith, turn.inside, words))) (rest turn.later))
    go true t false g rest =
        let turn : BlocksTurn d sender stop at = blocks_turn d sender stop at (ltb-true at stop t) e in
        rw (turn.items, items_none d sender at g) (rest turn.later)

packet_read : (d : List ℕ) (p : ℕ) → PacketsTurn true d p → All (ReadFrom d) (packet_items d p)
packet_read d p turn = go refl (holds d p turn.known)
  where
    go : {x : Packet} → contents d p ≡ x → Holds d p x → All (ReadFrom d) (packet_items d p)
    go e unread = rw (items_of d p e) none
    go e (sources least l h) = rw (items_of d p e) (sources_read d (p + least) (p + least) (p + 4) (omega arith))
    go e (blocks h) =
        rw (items_of d p e)
        (blocks_read d (be32 d (p + 4)) (p + content d p - (p + 8)) (p + content d p) (p + 8) (omega arith)
        (omega (arith, turn.known.fits, turn.known.inside))
        (sym (ap (parts_check d) e) ∙ turn.parts))
    go e (Holds.setting t h) =
        rw (items_of d p e)
        (also
        (ReadFrom.setting p turn.version_two t (omega (arith, h, turn.known.inside, turn.known.fits)))
        none)

packets_read :
    (d : List ℕ) (k p : ℕ) → length d - p ≤ k → packets_check true d p ≡ passed → All (ReadFrom d) (packets_items d p)
packets_read d zero p h e = rw (packets_end d p (omega arith)) none
packets_read d (suc k) p h e = go (ltb p (length d)) refl (λ c. packets_read d k (p + size d p) (omega arith) c)
  where
    go :
        (t : Bool) → ltb p (length d) ≡ t
        → (packets_check true d (p + size d p) ≡ passed → All (ReadFrom d) (packets_items d (p + size d p)))
        → All (ReadFrom d) (packets_items d p)
    go false t rest = rw (packets_end d p (ltb-false p (length d) t)) none
    go true t rest =
        let turn : PacketsTurn true d p = packets_turn true d p (ltb-true p (length d) t) e in
        rw turn.items (all_append (ReadFrom d) (packet_read d p turn) (rest turn.later))

pub items_read : (d : List ℕ) → datagram_check true d ≡ passed → All (ReadFrom d) (datagram_items d)
unfolding datagram_check datagram_items
items_read d e = packets_read d (length d) 0 (omega arith) (check_passes (length_is_bad (length d)) _ _ _ e).1

-- ---- the item at an index

pub item-read :
    (reduced : Bool) (d : List ℕ) (index : ℕ) (x : Placed) → item_of reduced d index ≡ Ok x → ReadFrom d x
item-read reduced d index x e = go (datagram_check reduced d) refl (ltb index (length (datagram_items d))) refl
  where
    go : (k : Check) → datagram_check reduced d ≡ k → (t : Bool) → ltb index (length (datagram_items d)) ≡ t → ReadFrom d x
    go (refused number place) k t b =
        let other : _ = item_refused reduced d index number place k in
        cc
    go passed k false b =
        let other : _ = item-past reduced d index k (ltb-false index (length (datagram_items d)) b) in
        cc
    go passed k true b =
        let here : index < length (datagram_items d) = ltb-true index (length (datagram_items d)) b in
        let there : _ = item-there reduced d index k here in
        let same : get_or (datagram_items d) index nothing ≡ x = cc in
        rw same at (all-at (ReadFrom d) (datagram_items d) index nothing (items_read d (passes_agreed reduced d k)) here)
