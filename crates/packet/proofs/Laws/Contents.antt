-- What a packet holds once its header has passed, and where its parts lie.
use Prim.Native.Nat.{ℕ, ◌+◌, ◌-◌, ◌*◌, ◌≤◌, ◌<◌}
use Rattle.std.specs.Prelude.{Some, None}
use mathlib.Core.Path.{◌≡◌, refl, sym, ap, ◌∙◌}
use mathlib.Core.List.{List}
use mathlib.Core.Bool.{Bool, true, false, not}
use lib.ListN.{length}
use lib.Dec.{leb}
use native.Mathlib.Omega.{arith}
use borrow.Author.Tests.{le-ltb, ltb-false, eqb-true, not-true, not-false, le-leb, lt-leb, leb-true}
use Rattle.idms.specs.declared.Settings.{Settings}
use Rattle.packet_checks.specs.declared.kind.PacketType.{PacketType}
use Rattle.packet_checks.specs.Header.{content_is_short}
use Rattle.packet_checks.proofs.Laws.Kinds.{Carries, kind_carries}
use Rattle.packet.specs.declared.contents.Packet.{Packet}
use Rattle.packet.specs.declared.header.Head.{Head}
use Rattle.packet.specs.Bytes.{be32}
use Rattle.packet.specs.Packet.{packet_type, count, kind, size, content}
use Rattle.packet.specs.Settings.{settings_at}
use Rattle.packet.specs.Contents.{contents_of, contents, readable}
use Rattle.packet.specs.Answers.{head_of, packet_is, settings_is}
use Rattle.packet.proofs.Laws.Bools.{and_left, and_right}
use Rattle.packet.proofs.Laws.Packet.{content_inside, Readable}

-- the parts of a packet of a type, which lie in its content
pub data Holds (d : List ℕ) (p : ℕ) : Packet → Type 0 where
  unread : Holds d p (Packet.Unread (p + size d p))
  sources :
      (least : ℕ) → least ≡ 4 + 4 * count d p → least ≤ content d p
      → Holds d p (Packet.Sources (p + 4) (p + least) (p + size d p))
  blocks :
      8 ≤ content d p
      → Holds d p (Packet.Blocks (be32 d (p + 4)) (p + 8) (p + content d p) (p + size d p))
  setting : packet_type d p ≡ 211 → content d p ≡ 36 → Holds d p (Packet.Settings (p + size d p))

pub type_holds :
    (d : List ℕ) (p : ℕ) (t : PacketType) → Readable d p → kind d p ≡ t → Holds d p (contents_of d p t)
type_holds d p t h e =
    go t (rw e at (kind_carries (packet_type d p) (count d p)))
    (sym (ap (λ (x : PacketType). content_is_short x (content d p)) e) ∙ h.enough)
  where
    go :
        (t : PacketType) → Carries (packet_type d p) (count d p) t → content_is_short t (content d p) ≡ false
        → Holds d p (contents_of d p t)
    go (PacketType.Sr least) c s = unread
    go (PacketType.Rr least) c s = unread
    go (PacketType.Bye least) c s = sources least c (ltb-false (content d p) least s)
    go (PacketType.Xr least) c s = blocks (omega (arith, c, ltb-false (content d p) least s))
    go (PacketType.Settings exact) c s = setting c.1 (eqb-true (content d p) exact (not-false _ s) ∙ c.0)
    go PacketType.Other c s = unread

pub holds : (d : List ℕ) (p : ℕ) → Readable d p → Holds d p (contents d p)
holds d p h = type_holds d p (kind d p) h refl

-- ---- the place of each part, read off what the packet holds

pub held_sources :
    (d : List ℕ) (p first stop next : ℕ) → Holds d p (Packet.Sources first stop next)
    → (first ≡ p + 4) × (stop ≡ p + (4 + 4 * count d p)) × (4 + 4 * count d p ≤ content d p)
held_sources d p first stop next (sources least e h) = (refl, omega (arith, e), omega (arith, e))

pub held_blocks :
    (d : List ℕ) (p sender first stop next : ℕ) → Holds d p (Packet.Blocks sender first stop next)
    → (first ≡ p + 8) × (stop ≡ p + content d p) × (8 ≤ content d p)
held_blocks d p sender first stop next (blocks h) = (refl, refl, h)

pub held_settings :
    (d : List ℕ) (p next : ℕ) → Holds d p (Packet.Settings next) → content d p ≡ 36
held_settings d p next (setting t h) = h

-- ---- readable and packet_is

module _ (d : List ℕ) (p : ℕ) where
  pub readable_there :
      p + size d p ≤ length d → content_is_short (kind d p) (content d p) ≡ false → readable d p ≡ true
  unfolding readable
  readable_there h e = rw (le-leb (p + size d p) (length d) h, e)

  pub unreadable_long : length d < p + size d p → readable d p ≡ false
  unfolding readable
  unreadable_long h = rw (lt-leb (p + size d p) (length d) h)

  pub readable_packet : readable d p ≡ true → Readable d p
  unfolding readable
  readable_packet h =
      let fits : Bool = leb (p + size d p) (length d) in
      let enough : Bool = not (content_is_short (kind d p) (content d p)) in
      record {
        fits = leb-true (p + size d p) (length d) (and_left fits enough h);
        inside = content_inside d p;
        enough = not-true (content_is_short (kind d p) (content d p)) (and_right fits enough h);
      }

  pub packet_read : readable d p ≡ true → packet_is d p ≡ Some (contents d p)
  unfolding packet_is
  packet_read e = rw e

  pub packet_unread : readable d p ≡ false → packet_is d p ≡ None
  unfolding packet_is
  packet_unread e = rw e

  -- no packet starts at the end of the datagram, or behind it
  pub packet_outside : length d - p < 4 → packet_is d p ≡ None
  packet_outside h = packet_unread (unreadable_long (omega arith))

  -- a packet whose header has passed
  pub known_readable : Readable d p → readable d p ≡ true
  known_readable h = readable_there h.fits h.enough

  pub packet_known : Readable d p → packet_is d p ≡ Some (contents d p)
  packet_known h = packet_read (known_readable h)

-- ---- where the parts of a readable packet end, by the header that was read of it

pub next_inside : (d : List ℕ) (p : ℕ) (h : Head) → h ≡ head_of d p → readable d p ≡ true → p + h.bytes ≤ length d
next_inside d p h e r = let n : _ = ap (λ (x : Head). x.bytes) e in omega (arith, n, (readable_packet d p r).fits)

pub sources_inside :
    (d : List ℕ) (p least : ℕ) (h : Head) → h.kind ≡ PacketType.Bye least → h ≡ head_of d p → readable d p ≡ true
    → (p + least ≤ length d) × (4 ≤ least)
sources_inside d p least h k e r =
    let packet : _ = readable_packet d p r in
    let w : _ = held_sources d p _ _ _ (type_holds d p _ packet (sym (ap (λ (x : Head). x.kind) e) ∙ k)) in
    (omega (arith, packet.fits, packet.inside, w.1, w.2), omega (arith, w.1))

pub blocks_inside :
    (d : List ℕ) (p least : ℕ) (h : Head) → h.kind ≡ PacketType.Xr least → h ≡ head_of d p → readable d p ≡ true
    → (p + h.content ≤ length d) × (8 ≤ h.content)
blocks_inside d p least h k e r =
    let packet : _ = readable_packet d p r in
    let w : _ = held_blocks d p _ _ _ _ (type_holds d p _ packet (sym (ap (λ (x : Head). x.kind) e) ∙ k)) in
    let m : _ = ap (λ (x : Head). x.content) e in
    (omega (arith, m, packet.fits, packet.inside), omega (arith, m, w.2))

pub ruleset parts_inside = (next_inside, sources_inside, blocks_inside)

-- ---- settings_is

pub settings_inside : (d : List ℕ) (p : ℕ) → 36 ≤ length d - p → settings_is d p ≡ Some (settings_at d p)
unfolding settings_is
settings_inside d p h = rw (le-ltb (length d - p) 36 h)

-- a settings packet that is readable has its 36 bytes
module _ (d : List ℕ) (p next : ℕ) (e : packet_is d p ≡ Some (Packet.Settings next)) where
  pub settings_there : settings_is d p ≡ Some (settings_at d p)
  settings_there = go (readable d p) refl
    where
      go : (t : Bool) → readable d p ≡ t → settings_is d p ≡ Some (settings_at d p)
      go true t =
          let h : _ = readable_packet d p t in
          let read : Some (contents d p) ≡ Some (Packet.Settings next) = sym (packet_read d p t) ∙ e in
          let c : contents d p ≡ Packet.Settings next = cc in
          let w : _ = held_settings d p next (rw c at (holds d p h)) in
          settings_inside d p (omega (arith, w, h.fits, h.inside))
      go false t =
          let u : _ = packet_unread d p t in
          let z : ◌≡◌ {A = ℕ} 0 1 = cc in
          absurd (omega arith)

  -- as a call has given them
  pub settings-read : (s : Settings) → settings_is d p ≡ Some s → s ≡ settings_at d p
  settings-read s f = let g : _ = settings_there in cc

  pub settings_not_outside : settings_is d p ≡ None → ⊥
  settings_not_outside f =
      let g : _ = settings_there in
      let z : ◌≡◌ {A = ℕ} 0 1 = cc in
      omega arith
