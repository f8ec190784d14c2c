-- What every writer answers, and what it leaves in the buffer that is lent to it. A message may have any length.
use Rattle.std.specs.Prelude.{ℕ, ◌≡◌, List, ◌++◌, Bool, cond, length, drop, ltb}
use Rattle.std.specs.Prelude.{Result, Ok, Err}
use Rattle.refusals.specs.declared.RefusalNumber.{RefusalNumber}

-- What a writer is asked to write: whether it may not be written, the number that is then given, and its bytes.
pub record Message : Type 0 where
  pub unwritable : Bool
  pub number : RefusalNumber
  pub bytes : List ℕ

-- The answer: the message's own refusal before 10, then how many bytes were written.
abbrev pub written : Message → List ℕ → Result ℕ RefusalNumber
written m buf =
    cond m.unwritable (Err m.number)
    (cond (ltb (length buf) (length m.bytes)) (Err RefusalNumber.ShortBuffer) (Ok (length m.bytes)))

-- The buffer afterwards: as before on a refusal; else the message, and behind it what was there.
abbrev pub buffer : Message → List ℕ → List ℕ
buffer m buf =
    cond m.unwritable buf
    (cond (ltb (length buf) (length m.bytes)) buf (m.bytes ++ drop (length m.bytes) buf))

-- What a writer has done with a buffer: its answer, and the buffer afterwards.
abbrev pub WroteMessage : Message → List ℕ → Result ℕ RefusalNumber → List ℕ → Type 0
WroteMessage m buf answer buf' = (answer ≡ written m buf) × (buf' ≡ buffer m buf)
