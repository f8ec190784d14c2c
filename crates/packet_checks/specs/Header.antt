-- The checks of a packet's header on plain values.
use Rattle.std.specs.Prelude.{ℕ, ◌+◌, ◌-◌, ◌*◌, ◌%◌, Bool, true, false, not, cond, ◌&&◌, ◌||◌, ltb, eqb}
use Rattle.packet_checks.specs.declared.kind.PacketType.{PacketType}

-- Check 3, of a packet with P set, from p to `end` in a datagram of `length` bytes: P may be set only on the last
-- packet, and not on the first, even where that is the last.
abbrev pub padding_is_misplaced : ℕ → ℕ → ℕ → Bool
padding_is_misplaced p end length = eqb p 0 || not (eqb end length)

-- Check 3, of a packet with P set: the count is a non-zero multiple of 4, at most the packet's bytes less 4.
abbrev pub padding_count_is_bad : ℕ → ℕ → Bool
padding_count_is_bad count bytes = eqb count 0 || not (eqb (count % 4) 0) || ltb (bytes - 4) count

-- Each packet type that is looked into, with its least content: 200 SR, 201 RR and 203 BYE (RFC 3550), 207 XR (RFC
-- 3611), 211 IDMS settings (RFC 7272), where it is exact; and one case for the types that are stepped over unread.
unfoldable pub kind_of : ℕ → ℕ → PacketType
kind_of type count =
    cond (eqb type 200) (PacketType.Sr (28 + 24 * count))
    (cond (eqb type 201) (PacketType.Rr (8 + 24 * count))
    (cond (eqb type 203) (PacketType.Bye (4 + 4 * count))
    (cond (eqb type 207) (PacketType.Xr 8)
    (cond (eqb type 211) (PacketType.Settings 36)
    PacketType.Other))))

-- an SR or an RR
abbrev pub opens : PacketType → Bool
opens (PacketType.Sr least) = true
opens (PacketType.Rr least) = true
opens (PacketType.Bye least) = false
opens (PacketType.Xr least) = false
opens (PacketType.Settings exact) = false
opens PacketType.Other = false

-- Check 4: the packet is the first and neither an SR nor an RR. `reduced` says, here and in every definition that takes
-- it, whether reduced-size RTCP (RFC 5506) was agreed: any type may then come first (E2).
unfoldable pub first_is_bad : Bool → ℕ → PacketType → Bool
first_is_bad reduced p t = eqb p 0 && not (opens t) && not reduced

-- check 5
abbrev pub content_is_short : PacketType → ℕ → Bool
content_is_short (PacketType.Sr least) bytes = ltb bytes least
content_is_short (PacketType.Rr least) bytes = ltb bytes least
content_is_short (PacketType.Bye least) bytes = ltb bytes least
content_is_short (PacketType.Xr least) bytes = ltb bytes least
content_is_short (PacketType.Settings exact) bytes = not (eqb bytes exact)
content_is_short PacketType.Other bytes = false
