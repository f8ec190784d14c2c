-- The SDP attribute rtcp-idms, as the line of a site file (RFC 7272, section 10; document 02, E1):
--
--     rtcp-idms   = "a=" "rtcp-idms" ":" sync-grp CRLF
--     sync-grp    = "sync-group=" SyncGroupId
--     SyncGroupId = 1*10DIGIT ; 0 through 4294967294
--
-- To ABNF upper and lower case are one; document 02 takes lower case alone. SyncGroupId 0 is the empty group.
use Rattle.std.specs.Prelude.{ℕ, ◌-◌, List, [], ◌∷◌, ◌++◌, length, ltb}
use Rattle.refusals.specs.declared.RefusalNumber.{RefusalNumber}
use Prim.Native.Char.{code}
use Prim.Native.String.{String, [] as empty, ◌∷◌ as ◌then◌}
use Rattle.std.proofs.Math.Seq.{slice}
use Rattle.buffer.specs.Buffer.{Message}
use Rattle.sdp.specs.Digits.{digits_of, without_leading_zeros}

-- a text's bytes
abbrev pub ascii : String → List ℕ
ascii empty = []
ascii (c then text) = code c ∷ ascii text

abbrev pub prefix : List ℕ
prefix = ascii "a=rtcp-idms:sync-group="

abbrev pub crlf : List ℕ
crlf = ascii "\r\n"

-- the line with these digits
abbrev pub sdp_line : List ℕ → List ℕ
sdp_line digits = prefix ++ digits ++ crlf

-- what stands where a line has its digits: behind the prefix and before the last two bytes
abbrev pub digits_in : List ℕ → List ℕ
digits_in d = slice (length prefix) (length d - length crlf) d

-- the greatest SyncGroupId; the value above it is reserved
abbrev pub greatest_group : ℕ
greatest_group = 4294967294

abbrev pub most_digits : ℕ
most_digits = 10

-- the line of a group number, without leading zeros
abbrev pub group_line : ℕ → List ℕ
group_line group = sdp_line (without_leading_zeros (digits_of most_digits group))

-- The line as a message: 22 for a number above the greatest, then 10 (buffer Buffer). The place is 0 (prunepocket
-- Messages).
abbrev pub group_message : ℕ → Message
group_message group =
    record { unwritable = ltb greatest_group group; number = RefusalNumber.BadGroup; bytes = group_line group }

-- a line with its leading zeros gone
abbrev pub line_without_leading_zeros : List ℕ → List ℕ
line_without_leading_zeros d = sdp_line (without_leading_zeros (digits_in d))
