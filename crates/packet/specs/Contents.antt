-- What a packet holds, by its type (document 01: other types are stepped over unread, while 207, 203 and 211 are taken
-- apart).
use Rattle.std.specs.Prelude.{ℕ, ◌+◌, List, Bool, not, ◌&&◌, length, leb}
use Rattle.packet_checks.specs.declared.kind.PacketType.{PacketType}
use Rattle.packet_checks.specs.Header.{content_is_short}
use Rattle.packet.specs.declared.contents.Packet.{Packet}
use Rattle.packet.specs.Bytes.{be32}
use Rattle.packet.specs.Packet.{kind, size, content}

-- Of a BYE packet the sources, which its least content ends with; of an XR packet the sender's SSRC and the blocks
-- behind it, which end with the content; of a settings packet that it is one, `settings_at` being what it holds; and of
-- other types, SR and RR among them, nothing. Each with the place of the packet behind.
abbrev pub contents_of : List ℕ → ℕ → PacketType → Packet
contents_of d p (PacketType.Sr least) = Packet.Unread (p + size d p)
contents_of d p (PacketType.Rr least) = Packet.Unread (p + size d p)
contents_of d p (PacketType.Bye least) = Packet.Sources (p + 4) (p + least) (p + size d p)
contents_of d p (PacketType.Xr least) = Packet.Blocks (be32 d (p + 4)) (p + 8) (p + content d p) (p + size d p)
contents_of d p (PacketType.Settings exact) = Packet.Settings (p + size d p)
contents_of d p PacketType.Other = Packet.Unread (p + size d p)

abbrev pub contents : List ℕ → ℕ → Packet
contents d p = contents_of d p (kind d p)

-- The packet lies in the datagram and has its least content, so that what it holds can be read. Checks 2 and 5 say so
-- of every packet of a datagram that is not refused.
unfoldable pub readable : List ℕ → ℕ → Bool
readable d p = leb (p + size d p) (length d) && not (content_is_short (kind d p) (content d p))
