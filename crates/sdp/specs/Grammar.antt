-- What each answer of the reader says of a line, in the words of document 02 (E1) and without a way to read it. That
-- the reader's answers say so, and no others do, is proved (proofs/Theorems.antt, `read_says` and `says_read`).
use Rattle.std.specs.Prelude.{ℕ, ◌≤◌, ◌<◌, ◌≡◌, true, List, ◌⊎◌, length}
use Rattle.std.specs.Prelude.{Result, Ok, Err}
use Rattle.refusals.specs.declared.RefusalNumber.{RefusalNumber}
use Rattle.sdp.specs.Digits.{are_digits, value_of}
use Rattle.sdp.specs.Line.{sdp_line, greatest_group, most_digits}

-- The grammar is kept, but for the count of digits: the prefix, one digit or more, CR LF, and nothing else.
pub record IsSdpLine (d digits : List ℕ) : Type 0 where
  pub whole : d ≡ sdp_line digits
  pub one_or_more : 1 ≤ length digits
  pub each : are_digits digits ≡ true

-- digits that give a group number
abbrev pub GivesGroup : List ℕ → ℕ → Type 0
GivesGroup digits group = (length digits ≤ most_digits) × (value_of digits ≡ group) × (group ≤ greatest_group)

-- 21: the grammar is not kept
abbrev pub NoSdpLine : List ℕ → Type 0
NoSdpLine d = (digits : List ℕ) → IsSdpLine d digits → ⊥

-- 22: it is otherwise kept, with more than ten digits or a value above the greatest
abbrev pub GivesNoGroup : List ℕ → Type 0
GivesNoGroup d =
    (digits : List ℕ) × IsSdpLine d digits × ((most_digits < length digits) ⊎ (greatest_group < value_of digits))

-- what each answer of the reader says of a line
abbrev pub LineSays : List ℕ → Result ℕ RefusalNumber → Type 0
LineSays d (Ok group) = (digits : List ℕ) × IsSdpLine d digits × GivesGroup digits group
LineSays d (Err number) =
    ((number ≡ RefusalNumber.BadLine) × NoSdpLine d) ⊎ ((number ≡ RefusalNumber.BadGroup) × GivesNoGroup d)
