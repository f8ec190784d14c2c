-- The fields of a datagram. Numbers are big-endian. A byte past the end reads as 0; no item reads one.
use Rattle.std.specs.Prelude.{ℕ, ◌+◌, ◌*◌, ◌^◌, ◌<◌, List, get_or}

abbrev pub byte : List ℕ → ℕ → ℕ
byte d at = get_or d at 0

-- a list of bytes
abbrev pub AreBytes : List ℕ → Type 0
AreBytes d = (i : ℕ) → byte d i < 2 ^ 8

-- the number that four bytes spell
abbrev pub from_bytes : ℕ → ℕ → ℕ → ℕ → ℕ
from_bytes a b c e = a * 2 ^ 24 + b * 2 ^ 16 + c * 2 ^ 8 + e

unfoldable pub be16 : List ℕ → ℕ → ℕ
be16 d at = byte d at * 2 ^ 8 + byte d (at + 1)

unfoldable pub be32 : List ℕ → ℕ → ℕ
be32 d at = from_bytes (byte d at) (byte d (at + 1)) (byte d (at + 2)) (byte d (at + 3))

unfoldable pub be64 : List ℕ → ℕ → ℕ
be64 d at = be32 d at * 2 ^ 32 + be32 d (at + 4)
