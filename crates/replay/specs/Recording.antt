-- A site recording (document 02, E7): a head of four 32-bit numbers, a table of contents with 32 bytes an entry, and
-- the bodies, which are the entries' datagrams in the same order. Numbers are big-endian.
use Rattle.std.specs.Prelude.{ℕ, suc, zero, ◌+◌, ◌*◌, List, [], ◌∷◌, Bool, not, ◌||◌, length, take, drop, ltb, eqb}
use Rattle.packet.specs.Bytes.{be16, be32, be64}
use Rattle.origin.specs.declared.Origin.{Origin}
use Rattle.register.specs.declared.Reading.{Reading}
use Rattle.register.specs.declared.Opening.{Opening}

-- ---- the head: entry count, group, media source, rate

abbrev pub recording_head_size : ℕ
recording_head_size = 16

abbrev pub entry_count : List ℕ → ℕ
entry_count f = be32 f 0

-- what the table is opened for
abbrev pub opening_in : List ℕ → Opening
opening_in f = record { group = be32 f 4; media = be32 f 8; rate = be32 f 12 }

-- ---- the table of contents: N 8, R 4, address 16, port 2, length 2

abbrev pub entry_size : ℕ
entry_size = 32

-- where entry n starts, counted from 0; with the entry count for n, where the bodies start
abbrev pub entry_place : ℕ → ℕ
entry_place n = recording_head_size + entry_size * n

-- of the entry at a place: N and R
abbrev pub entry_reading : List ℕ → ℕ → Reading
entry_reading f p = record { ntp = be64 f p; rtp = be32 f (p + 8) }

-- address and port
abbrev pub entry_origin : List ℕ → ℕ → Origin
entry_origin f p = record { address = take 16 (drop (p + 12) f); port = be16 f (p + 28) }

-- how many bytes its body has
abbrev pub body_length : List ℕ → ℕ → ℕ
body_length f p = be16 f (p + 30)

-- ---- the entries

-- a datagram, where it came from, and the sender's reading when it came
pub record RecordedDatagram : Type 0 where
  pub at : Reading
  pub origin : Origin
  pub datagram : List ℕ

-- as many as are asked for, from the one at p on, whose body starts at `body`
unfoldable pub entries_from : List ℕ → ℕ → ℕ → ℕ → List RecordedDatagram
entries_from f zero p body = []
entries_from f (suc n) p body =
    record {
      at = entry_reading f p;
      origin = entry_origin f p;
      datagram = take (body_length f p) (drop body f);
    }
    ∷ entries_from f n (p + entry_size) (body + body_length f p)

-- where the last of their bodies ends; without entries, where they would start
unfoldable pub bodies_end : List ℕ → ℕ → ℕ → ℕ → ℕ
bodies_end f zero p body = body
bodies_end f (suc n) p body = bodies_end f n (p + entry_size) (body + body_length f p)

-- all entries of a recording
unfoldable pub entries_in : List ℕ → List RecordedDatagram
entries_in f = entries_from f (entry_count f) (entry_place 0) (entry_place (entry_count f))

-- ---- 25

abbrev pub recording_limit : ℕ
recording_limit = 65536

abbrev pub entry_limit : ℕ
entry_limit = 256

-- over 65,536 bytes, head cut short, more than 256 entries, table of contents cut short, or bodies not ending exactly
-- at the file's end
unfoldable pub is_bad_layout : List ℕ → Bool
is_bad_layout f =
    ltb recording_limit (length f)
    || ltb (length f) recording_head_size
    || ltb entry_limit (entry_count f)
    || ltb (length f) (entry_place (entry_count f))
    || not (eqb (bodies_end f (entry_count f) (entry_place 0) (entry_place (entry_count f))) (length f))
