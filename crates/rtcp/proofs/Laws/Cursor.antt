-- A cursor gives the items of a datagram in turn. Each step either ends, gives the first of the items that remain, or
-- passes something that gives none; and what is left to step over falls, so that the next item is found.
use Prim.Native.Nat.{ℕ, suc, zero, ◌+◌, ◌-◌, ◌%◌, ◌≤◌, ◌<◌}
use Rattle.std.specs.Prelude.{Option, Some, None, Result, Ok, Err}
use Rattle.refusals.specs.declared.RefusalNumber.{RefusalNumber}
use mathlib.Core.Path.{◌≡◌, refl, sym, ap, ◌∙◌}
use mathlib.Core.List.{List, [], ◌∷◌, ◌++◌}
use mathlib.Core.Bool.{Bool, true, false}
use lib.ListN.{length}
use lib.Dec.{ltb, leb}
use native.Mathlib.Omega.{arith}
use borrow.Author.Tests.{ltb-true, ltb-false, leb-true, leb-false}
use Rattle.idms.specs.declared.Placed.{Placed}
use Rattle.packet.specs.declared.contents.Packet.{Packet}
use Rattle.packet_checks.specs.declared.block.Block.{Block}
use Rattle.packet.specs.Checks.{passed}
use Rattle.packet.specs.Bytes.{be32}
use Rattle.packet.specs.Packet.{size, content}
use Rattle.packet.specs.Contents.{contents, readable}
use Rattle.packet.specs.Answers.{block_is, source_is}
use Rattle.packet.proofs.Laws.Bytes.{source_inside}
use Rattle.packet.proofs.Laws.Checks.{check_passes}
use Rattle.packet.proofs.Laws.Packet.{Readable}
use Rattle.packet.proofs.Laws.Contents.{Holds, unread, sources, blocks, setting, holds, readable_packet, packet_read, packet_unread, packet_outside, packet_known}
use Rattle.packet.proofs.Laws.Blocks.{met_skipped}
use Rattle.datagram.specs.Datagram.{blocks_check, parts_check, parts_items, packets_check, packets_items, length_is_bad, datagram_check, datagram_items}
use Rattle.datagram.proofs.Laws.Datagram.{sources_part, sources_end, blocks_end, PacketsTurn, packets_turn, packets_end, items_of}
use Rattle.rtcp.specs.declared.cursor.State.{State}
use Rattle.rtcp.specs.declared.cursor.Cursor.{Cursor}
use Rattle.rtcp.specs.declared.cursor.Advance.{Advance}
use Rattle.rtcp.specs.Cursor.{packet_step, advance, left, cursor_at, seek, next_of, start, remaining, given}
use Rattle.rtcp.proofs.Laws.Blocks.{report_turn, skipped_turn, not-refused}
use Rattle.rtcp.proofs.Laws.Advance.{at_packet_lem, behind_sources, at_source, behind_blocks, at_block}

-- ---- left falls with each step that gives no item

-- the steps that can be told apart by their ends
data Falls (d : List ℕ) (c : State) : Option Advance → Type 0 where
  ends : Falls d c None
  gives : (x : Placed) (n : State) → Falls d c (Some (Advance.Item x n))
  falls : (n : State) → left d n < left d c → Falls d c (Some (Advance.Onward n))

packet_falls :
    (d : List ℕ) (p : ℕ) {x : Packet} → Readable d p → Holds d p x → Falls d (State.Packet p) (packet_step d p (Some x))
packet_falls d p h unread = falls (State.Packet (p + size d p)) (omega (arith, h.fits))
packet_falls d p h (sources least l m) =
    falls (State.Sources (p + 4) (p + least) (p + size d p)) (omega (arith, h.fits, h.inside, m))
packet_falls d p h (blocks m) =
    falls (State.Blocks (be32 d (p + 4)) (p + 8) (p + content d p) (p + size d p)) (omega (arith, h.fits, h.inside, m))
packet_falls d p h (setting t m) = gives _ _

advance_falls : (d : List ℕ) (c : State) → Falls d c (advance d c)
advance_falls d (State.Packet p) = go (readable d p) refl
  where
    go : (t : Bool) → readable d p ≡ t → Falls d (State.Packet p) (advance d (State.Packet p))
    go true e =
        let h : _ = readable_packet d p e in
        rw (at_packet_lem d p (packet_read d p e)) (packet_falls d p h (holds d p h))
    go false e = rw (at_packet_lem d p (packet_unread d p e)) ends
advance_falls d (State.Sources at stop next) = go (leb stop at) refl (source_is d stop at) refl
  where
    go :
        (t : Bool) → leb stop at ≡ t → (x : Option ℕ) → source_is d stop at ≡ x
        → Falls d (State.Sources at stop next) (advance d (State.Sources at stop next))
    go true t x e = rw (behind_sources d at stop next (leb-true stop at t)) (falls (State.Packet next) (omega arith))
    go false t (Some s) e = rw (at_source d at stop next (leb-false stop at t) e) (gives _ _)
    go false t None e = rw (at_source d at stop next (leb-false stop at t) e) ends
advance_falls d (State.Blocks sender at stop next) = go (leb stop at) refl (block_is d stop at) refl
  where
    go :
        (t : Bool) → leb stop at ≡ t → (x : Result Block RefusalNumber) → block_is d stop at ≡ x
        → Falls d (State.Blocks sender at stop next) (advance d (State.Blocks sender at stop next))
    go true t x e =
        rw (behind_blocks d sender at stop next (leb-true stop at t)) (falls (State.Packet next) (omega arith))
    go false t (Ok Block.Report) e = rw (at_block d sender at stop next (leb-false stop at t) e) (gives _ _)
    go false t (Ok (Block.Skipped bytes)) e =
        let m : _ = met_skipped d stop at bytes e in
        rw (at_block d sender at stop next (leb-false stop at t) e)
        (falls (State.Blocks sender (at + bytes) stop next)
        (omega (arith, m.0.inside, m.0.size, leb-false stop at t)))
    go false t (Err number) e = rw (at_block d sender at stop next (leb-false stop at t) e) ends

pub left_falls : (d : List ℕ) (c n : State) → advance d c ≡ Some (Advance.Onward n) → left d n < left d c
left_falls d c n e = take e (advance_falls d c)
  where
    take : {a : Option Advance} → a ≡ Some (Advance.Onward n) → Falls d c a → left d n < left d c
    take e (falls m h) = let same : m ≡ n = cc in rw same at h
    take e (gives x m) = cc
    take e ends = cc

-- ---- next_of, by the step

seek-item : (k : ℕ) (d : List ℕ) (c : State) (x : Placed) (n : State) → advance d c ≡ Some (Advance.Item x n) → seek (suc k) d c ≡ Some (x, cursor_at n)
unfolding seek
seek-item k d c x n e = rw (e, seek)

seek_onward : (k : ℕ) (d : List ℕ) (c n : State) → advance d c ≡ Some (Advance.Onward n) → seek (suc k) d c ≡ seek k d n
unfolding seek
seek_onward k d c n e = rw (e, seek)

seek_end : (k : ℕ) (d : List ℕ) (c : State) → advance d c ≡ None → seek (suc k) d c ≡ None
unfolding seek
seek_end k d c e = rw (e, seek)

-- any bound that is enough finds the same
seek_enough : (k j : ℕ) (d : List ℕ) (c : State) → left d c < k → left d c < j → seek k d c ≡ seek j d c
seek_enough zero j d c hk hj = absurd (omega arith)
seek_enough (suc k) zero d c hk hj = absurd (omega arith)
seek_enough (suc k) (suc j) d c hk hj =
    go (advance d c) refl (λ n e. seek_enough k j d n (omega (arith, left_falls d c n e)) (omega (arith, left_falls d c n e)))
  where
    go :
        (a : Option Advance) → advance d c ≡ a → ((n : State) → advance d c ≡ Some (Advance.Onward n) → seek k d n ≡ seek j d n)
        → seek (suc k) d c ≡ seek (suc j) d c
    go (Some (Advance.Item x n)) e rest = seek-item k d c x n e ∙ sym (seek-item j d c x n e)
    go (Some (Advance.Onward n)) e rest = seek_onward k d c n e ∙ rest n e ∙ sym (seek_onward j d c n e)
    go None e rest = seek_end k d c e ∙ sym (seek_end j d c e)

pub next_item_lem : (d : List ℕ) (c : State) (x : Placed) (n : State) → advance d c ≡ Some (Advance.Item x n) → next_of d (cursor_at c) ≡ Some (x, cursor_at n)
unfolding next_of
next_item_lem d c x n e = seek-item (left d c) d c x n e

pub next_end : (d : List ℕ) (c : State) → advance d c ≡ None → next_of d (cursor_at c) ≡ None
unfolding next_of
next_end d c e = seek_end (left d c) d c e

pub next_onward : (d : List ℕ) (c n : State) → advance d c ≡ Some (Advance.Onward n) → next_of d (cursor_at c) ≡ next_of d (cursor_at n)
unfolding next_of
next_onward d c n e =
    seek_onward (left d c) d c n e ∙ seek_enough (left d c) (suc (left d n)) d n (left_falls d c n e) (omega arith)

-- ---- Good: a cursor that a datagram with no refusal, or with 4 alone, has given

abbrev pub Good : List ℕ → State → Type 0
Good d (State.Packet p) = packets_check true d p ≡ passed
Good d (State.Sources at stop next) = (stop ≤ length d) × ((stop - at) % 4 ≡ 0) × (packets_check true d next ≡ passed)
Good d (State.Blocks sender at stop next) = (blocks_check d stop at ≡ passed) × (packets_check true d next ≡ passed)

pub start_good : (d : List ℕ) → datagram_check true d ≡ passed → Good d start.state
unfolding datagram_check
start_good d e = (check_passes (length_is_bad (length d)) _ _ _ e).1

-- one step from a good cursor
data Steps (d : List ℕ) (c : State) : Option Advance → Type 0 where
  ended : remaining d c ≡ [] → Steps d c None
  gave : (x : Placed) (n : State) → remaining d c ≡ x ∷ remaining d n → Good d n → Steps d c (Some (Advance.Item x n))
  went : (n : State) → remaining d c ≡ remaining d n → Good d n → Steps d c (Some (Advance.Onward n))

-- at a packet that has passed
packet_steps : (d : List ℕ) (p : ℕ) → PacketsTurn true d p → Steps d (State.Packet p) (advance d (State.Packet p))
packet_steps d p turn = rw (at_packet_lem d p (packet_known d p turn.known)) (go refl (holds d p turn.known))
  where
    items_as : {x : Packet} → contents d p ≡ x → packets_items d p ≡ parts_items d p x ++ packets_items d (p + size d p)
    items_as e = turn.items ∙ ap (λ (l : List Placed). l ++ packets_items d (p + size d p)) (items_of d p e)

    go : {x : Packet} → contents d p ≡ x → Holds d p x → Steps d (State.Packet p) (packet_step d p (Some x))
    go e unread = went (State.Packet (p + size d p)) (items_as e) turn.later
    go e (sources least l h) =
        went (State.Sources (p + 4) (p + least) (p + size d p)) (items_as e)
        (omega (arith, turn.known.fits, turn.known.inside, h), omega (arith, l), turn.later)
    go e (blocks h) =
        went (State.Blocks (be32 d (p + 4)) (p + 8) (p + content d p) (p + size d p)) (items_as e)
        (sym (ap (parts_check d) e) ∙ turn.parts, turn.later)
    go e (setting t h) = gave _ (State.Packet (p + size d p)) (items_as e) turn.later

advance_steps : (d : List ℕ) (c : State) → Good d c → Steps d c (advance d c)
advance_steps d (State.Packet p) good = go (ltb p (length d)) refl
  where
    go : (t : Bool) → ltb p (length d) ≡ t → Steps d (State.Packet p) (advance d (State.Packet p))
    go true t = packet_steps d p (packets_turn true d p (ltb-true p (length d) t) good)
    go false t =
        let over : length d ≤ p = ltb-false p (length d) t in
        rw (at_packet_lem d p (packet_outside d p (omega arith))) (ended (packets_end d p over))
advance_steps d (State.Sources at stop next) good = go (leb stop at) refl
  where
    go : (t : Bool) → leb stop at ≡ t → Steps d (State.Sources at stop next) (advance d (State.Sources at stop next))
    go true t =
        let over : stop ≤ at = leb-true stop at t in
        rw (behind_sources d at stop next over)
        (went (State.Packet next) (ap (λ (l : List Placed). l ++ packets_items d next) (sources_end d stop at over)) good.2)
    go false t =
        let here : at < stop = leb-false stop at t in
        rw (at_source d at stop next here (source_inside d stop at (omega (arith, good.0)) (omega (arith, good.0, good.1))))
        (gave _ (State.Sources (at + 4) stop next)
        (ap (λ (l : List Placed). l ++ packets_items d next) (sources_part d stop at here))
        (good.0, omega (arith, good.1), good.2))
advance_steps d (State.Blocks sender at stop next) good = go (leb stop at) refl (block_is d stop at) refl
  where
    go :
        (t : Bool) → leb stop at ≡ t → (x : Result Block RefusalNumber) → block_is d stop at ≡ x
        → Steps d (State.Blocks sender at stop next) (advance d (State.Blocks sender at stop next))
    go true t x e =
        let over : stop ≤ at = leb-true stop at t in
        rw (behind_blocks d sender at stop next over)
        (went (State.Packet next)
        (ap (λ (l : List Placed). l ++ packets_items d next) (blocks_end d sender stop at over))
        good.1)
    go false t (Ok Block.Report) e =
        let here : at < stop = leb-false stop at t in
        let turn : _ = report_turn d sender stop at here good.0 e in
        rw (at_block d sender at stop next here e)
        (gave _ (State.Blocks sender (at + 32) stop next)
        (ap (λ (l : List Placed). l ++ packets_items d next) turn.all)
        (turn.later, good.1))
    go false t (Ok (Block.Skipped bytes)) e =
        let here : at < stop = leb-false stop at t in
        let turn : _ = skipped_turn d sender stop at here good.0 bytes e in
        rw (at_block d sender at stop next here e)
        (went (State.Blocks sender (at + bytes) stop next)
        (ap (λ (l : List Placed). l ++ packets_items d next) turn.all)
        (turn.later, good.1))
    go false t (Err number) e =
        absurd (not-refused d sender stop at (leb-false stop at t) good.0 number e)

-- ---- what a good cursor gives next

pub data Gives (d : List ℕ) (c : State) : Option (Placed × Cursor) → Type 0 where
  ended : remaining d c ≡ [] → Gives d c None
  gave : (x : Placed) (n : State) → remaining d c ≡ x ∷ remaining d n → Good d n → Gives d c (Some (x, cursor_at n))

seek-gives : (k : ℕ) (d : List ℕ) (c : State) → left d c < k → Good d c → Gives d c (seek k d c)
seek-gives zero d c h good = absurd (omega arith)
seek-gives (suc k) d c h good =
    go refl (advance_steps d c good) (λ n e g. seek-gives k d n (omega (arith, left_falls d c n e)) g)
  where
    moved : (n : State) {s : Option (Placed × Cursor)} → remaining d c ≡ remaining d n → Gives d n s → Gives d c s
    moved n e (Gives.ended f) = Gives.ended (e ∙ f)
    moved n e (Gives.gave x m f g) = Gives.gave x m (e ∙ f) g

    go :
        {a : Option Advance} → advance d c ≡ a → Steps d c a
        → ((n : State) → advance d c ≡ Some (Advance.Onward n) → Good d n → Gives d n (seek k d n))
        → Gives d c (seek (suc k) d c)
    go e (Steps.ended f) rest = rw (seek_end k d c e) (Gives.ended f)
    go e (Steps.gave x n f g) rest = rw (seek-item k d c x n e) (Gives.gave x n f g)
    go e (Steps.went n f g) rest = rw (seek_onward k d c n e) (moved n f (rest n e g))

pub next_gives : (d : List ℕ) (c : State) → Good d c → Gives d c (next_of d (cursor_at c))
unfolding next_of
next_gives d c good = seek-gives (suc (left d c)) d c (omega arith) good

pub at_item :
    (d : List ℕ) (c : Cursor) (x : Placed) (n : Cursor) → Good d c.state → next_of d c ≡ Some (x, n)
    → (remaining d c.state ≡ x ∷ remaining d n.state) × Good d n.state
at_item d c x n good e = take e (next_gives d c.state good)
  where
    take :
        {s : Option (Placed × Cursor)} → s ≡ Some (x, n) → Gives d c.state s
        → (remaining d c.state ≡ x ∷ remaining d n.state) × Good d n.state
    take e (Gives.ended f) = cc
    take e (Gives.gave y m f g) =
        let both : (y, cursor_at m) ≡ (x, n) = cc in
        let first : y ≡ x = ap (λ (k : Placed × Cursor). k.0) both in
        let later : m ≡ n.state = ap (λ (k : Placed × Cursor). k.1.state) both in
        (rw (first, later) at f, rw later at g)

pub at_end : (d : List ℕ) (c : Cursor) → Good d c.state → next_of d c ≡ None → remaining d c.state ≡ []
at_end d c good e = take e (next_gives d c.state good)
  where
    take : {s : Option (Placed × Cursor)} → s ≡ None → Gives d c.state s → remaining d c.state ≡ []
    take e (Gives.ended f) = f
    take e (Gives.gave y m f g) = cc

-- ---- all of them: from the start, a datagram with no refusal gives item 0, 1, .. count − 1, and then the end

given-all :
    (k : ℕ) (d : List ℕ) (c : Cursor) → Good d c.state → length (remaining d c.state) ≤ k
    → given k d c ≡ remaining d c.state
unfolding given
given-all zero d c good h = sym (none (remaining d c.state) h)
  where
    none : (l : List Placed) → length l ≤ 0 → l ≡ []
    none [] h = refl
    none (x ∷ l) h = absurd (omega arith)
given-all (suc k) d c good h = go refl (next_gives d c.state good) (λ n g l. given-all k d n g l)
  where
    go :
        {s : Option (Placed × Cursor)} → next_of d c ≡ s → Gives d c.state s
        → ((n : Cursor) → Good d n.state → length (remaining d n.state) ≤ k → given k d n ≡ remaining d n.state)
        → given (suc k) d c ≡ remaining d c.state
    go e (Gives.ended f) rest = rw (e, given) (sym f)
    go e (Gives.gave x n f g) rest =
        rw (e, given) (ap (λ (l : List Placed). x ∷ l) (rest (cursor_at n) g (omega (arith, ap length f))) ∙ sym f)

pub cursor_gives_items :
    (d : List ℕ) (k : ℕ) → datagram_check true d ≡ passed → length (datagram_items d) ≤ k → given k d start ≡ datagram_items d
unfolding datagram_items
cursor_gives_items d k e h = given-all k d start (start_good d e) h
