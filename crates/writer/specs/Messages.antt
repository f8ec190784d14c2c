-- The two messages as words, word by word as the layouts of packet's Report and Settings have them, and when they are
-- refused.
use Rattle.std.specs.Prelude.{ℕ, ◌+◌, ◌*◌, ◌/◌, ◌%◌, ◌^◌, List, [], ◌∷◌, Bool, not, ◌&&◌, ◌||◌, ltb, eqb}
use Rattle.refusals.specs.declared.RefusalNumber.{RefusalNumber}
use Rattle.idms.specs.Rows.{flag}
use Rattle.idms.specs.declared.Report.{Report}
use Rattle.idms.specs.declared.Settings.{Settings}
use Rattle.buffer.specs.Buffer.{Message}
use Rattle.rtcp.specs.Puts.{flat}

-- a word's bytes, the most significant first
abbrev pub bytes32 : ℕ → List ℕ
bytes32 w = w / 2 ^ 24 % 2 ^ 8 ∷ w / 2 ^ 16 % 2 ^ 8 ∷ w / 2 ^ 8 % 2 ^ 8 ∷ w % 2 ^ 8 ∷ []

abbrev pub bytes_of : List ℕ → List ℕ
bytes_of words = flat bytes32 words

-- The XR packet: header, sender; then the block: type 12, role 1, P and length 7; payload type; group; media source;
-- received; RTP; presented. Reserved bits are 0.
abbrev pub report_words : Report → List ℕ
report_words r =
    0x80CF0009
    ∷ r.sender
    ∷ (0x0C100007 + flag r.p * 2 ^ 16)
    ∷ (r.payload_type * 2 ^ 25)
    ∷ r.group
    ∷ r.media
    ∷ r.received / 2 ^ 32
    ∷ r.received % 2 ^ 32
    ∷ r.rtp
    ∷ r.presented
    ∷ []

-- The settings packet: header, sender; media source; group; received; RTP; presented. Here the media source precedes
-- the group; in the report it follows.
abbrev pub settings_words : Settings → List ℕ
settings_words s =
    0x80D30008
    ∷ s.sender
    ∷ s.media
    ∷ s.group
    ∷ s.received / 2 ^ 32
    ∷ s.received % 2 ^ 32
    ∷ s.rtp
    ∷ s.presented / 2 ^ 32
    ∷ s.presented % 2 ^ 32
    ∷ []

-- refusal 11: payload type above 127, group 4,294,967,295, or P 0 with presented non-zero
unfoldable pub report_is_unwritable : Report → Bool
report_is_unwritable r =
    ltb 127 r.payload_type || eqb r.group 4294967295 || (not r.p && not (eqb r.presented 0))

-- for settings only the group applies
abbrev pub settings_are_unwritable : Settings → Bool
settings_are_unwritable s = eqb s.group 4294967295

-- The two messages as their writers are asked to write them: 11 where they may not be written.
abbrev pub report_message : Report → Message
report_message r =
    record { unwritable = report_is_unwritable r; number = RefusalNumber.OutOfRange; bytes = bytes_of (report_words r) }

abbrev pub settings_message : Settings → Message
settings_message s =
    record {
      unwritable = settings_are_unwritable s;
      number = RefusalNumber.OutOfRange;
      bytes = bytes_of (settings_words s);
    }
