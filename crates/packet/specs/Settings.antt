-- The IDMS settings packet (RFC 7272 section 7), type 211, 9 words without padding. Its five count bits are reserved
-- and ignored.
--
--      0                   1                   2                   3
--      0 1 2 3 4 5 6 7 8 9 0 1 2 3 4 5 6 7 8 9 0 1 2 3 4 5 6 7 8 9 0 1
--     +-+-+-+-+-+-+-+-+-+-+-+-+-+-+-+-+-+-+-+-+-+-+-+-+-+-+-+-+-+-+-+-+
--     |V=2|P| reserved|    PT=211     |   length (8 without padding)  |
--     +-+-+-+-+-+-+-+-+-+-+-+-+-+-+-+-+-+-+-+-+-+-+-+-+-+-+-+-+-+-+-+-+
--     |                     SSRC of packet sender                     |
--     +-+-+-+-+-+-+-+-+-+-+-+-+-+-+-+-+-+-+-+-+-+-+-+-+-+-+-+-+-+-+-+-+
--     |                     SSRC of media source                      |
--     +-+-+-+-+-+-+-+-+-+-+-+-+-+-+-+-+-+-+-+-+-+-+-+-+-+-+-+-+-+-+-+-+
--     |             media stream correlation identifier               |
--     +-+-+-+-+-+-+-+-+-+-+-+-+-+-+-+-+-+-+-+-+-+-+-+-+-+-+-+-+-+-+-+-+
--     |                   packet received NTP timestamp               |
--     |                            (64 bits)                          |
--     +-+-+-+-+-+-+-+-+-+-+-+-+-+-+-+-+-+-+-+-+-+-+-+-+-+-+-+-+-+-+-+-+
--     |                   packet received RTP timestamp               |
--     +-+-+-+-+-+-+-+-+-+-+-+-+-+-+-+-+-+-+-+-+-+-+-+-+-+-+-+-+-+-+-+-+
--     |                  packet presented NTP timestamp               |
--     |                            (64 bits)                          |
--     +-+-+-+-+-+-+-+-+-+-+-+-+-+-+-+-+-+-+-+-+-+-+-+-+-+-+-+-+-+-+-+-+
use Rattle.std.specs.Prelude.{ℕ, ◌+◌, List}
use Rattle.idms.specs.declared.Settings.{Settings}
use Rattle.idms.specs.declared.Item.{Item}
use Rattle.idms.specs.declared.Placed.{Placed}
use Rattle.packet.specs.Bytes.{be32, be64}

-- Here the media source precedes the group; in the report it follows. Presented 0 means empty.
unfoldable pub settings_at : List ℕ → ℕ → Settings
settings_at d p =
    record {
      sender = be32 d (p + 4);
      media = be32 d (p + 8);
      group = be32 d (p + 12);
      received = be64 d (p + 16);
      rtp = be32 d (p + 24);
      presented = be64 d (p + 28);
    }

abbrev pub settings_item : List ℕ → ℕ → Placed
settings_item d p = record { place = p; item = Item.Settings (settings_at d p) }
