-- What demand 2 speaks of: a datagram that is judged and what it gives, the ranges of the fields, and a datagram's own
-- bytes with what is not written back cleared.
use Rattle.std.specs.Prelude.{ℕ, ◌+◌, ◌*◌, ◌/◌, ◌%◌, ◌^◌, ◌<◌, ◌≡◌, List, [], ◌∷◌, ◌++◌, take, drop}
use Rattle.std.specs.Prelude.{Bool, true, false, cond}
use Rattle.std.specs.Prelude.{Ok, Err}
use Rattle.refusals.specs.declared.RefusalNumber.{RefusalNumber}
use Rattle.idms.specs.declared.Report.{Report}
use Rattle.idms.specs.declared.Settings.{Settings}
use Rattle.idms.specs.declared.Item.{Item}
use Rattle.idms.specs.declared.Placed.{Placed}
use Rattle.packet.specs.Bytes.{byte}
use Rattle.packet.specs.Report.{block_p}
use Rattle.datagram.specs.Answers.{refusal, item_count}
use Rattle.rtcp.specs.Answers.{item_of}
use Rattle.writer.specs.Messages.{bytes_of}

-- a packet read back is judged behind an 8-byte RR with count 0, whatever its sender
abbrev pub behind_rr : ℕ → List ℕ → List ℕ
behind_rr ssrc bytes = bytes_of (0x80C90001 ∷ ssrc ∷ []) ++ bytes

-- exactly one item is read from a datagram, and it is this one; `reduced` says whether reduced size was agreed
abbrev pub GivesOne : Bool → List ℕ → Placed → Type 0
GivesOne reduced d x = (item_count reduced d ≡ Ok 1) × (item_of reduced d 0 ≡ Ok x)

-- What is read of a packet that a writer wrote: one item, `offset` bytes behind the packet's start. Behind the RR it is
-- read whether or not reduced size was agreed; alone it is read where that was agreed, and else refused with 4.
pub record ReadBack (bytes : List ℕ) (offset : ℕ) (x : Item) : Type 0 where
  pub behind_an_rr :
      (reduced : Bool) (ssrc : ℕ) → GivesOne reduced (behind_rr ssrc bytes) (record { place = 8 + offset; item = x })
  pub alone : GivesOne true bytes (record { place = offset; item = x })
  pub alone-refused : item_count false bytes ≡ Err (refusal RefusalNumber.BadFirst 0)

-- the ranges of the fields' types
pub record ReportFits (r : Report) : Type 0 where
  pub sender : r.sender < 2 ^ 32
  pub payload : r.payload_type < 2 ^ 8
  pub group : r.group < 2 ^ 32
  pub media : r.media < 2 ^ 32
  pub received : r.received < 2 ^ 64
  pub rtp : r.rtp < 2 ^ 32
  pub presented : r.presented < 2 ^ 32

pub record SettingsFit (s : Settings) : Type 0 where
  pub sender : s.sender < 2 ^ 32
  pub group : s.group < 2 ^ 32
  pub media : s.media < 2 ^ 32
  pub received : s.received < 2 ^ 64
  pub rtp : s.rtp < 2 ^ 32
  pub presented : s.presented < 2 ^ 64

-- n bytes of a datagram from a place on
abbrev pub part : List ℕ → ℕ → ℕ → List ℕ
part d at n = take n (drop at d)

-- A report block's 8 words, with reserved bits 0 (3 beside P, 25 after the payload type), and presented 0 where P is 0.
abbrev pub cleared_report : List ℕ → ℕ → List ℕ
cleared_report d at =
    byte d at
    ∷ (byte d (at + 1) / 2 ^ 4 * 2 ^ 4 + byte d (at + 1) % 2)
    ∷ byte d (at + 2)
    ∷ byte d (at + 3)
    ∷ (byte d (at + 4) / 2 * 2)
    ∷ 0
    ∷ 0
    ∷ 0
    ∷ (part d (at + 8) 20
    ++ cond (block_p d at) (part d (at + 28) 4) (0 ∷ 0 ∷ 0 ∷ 0 ∷ []))

-- A settings packet's 36 bytes without padding: version and type as they are, P and the five count bits 0, length 8.
abbrev pub cleared_settings : List ℕ → ℕ → List ℕ
cleared_settings d p = (byte d p / 2 ^ 6 * 2 ^ 6) ∷ byte d (p + 1) ∷ 0 ∷ 8 ∷ part d (p + 4) 32
