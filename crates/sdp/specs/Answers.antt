-- What the reader of the line answers, as tests in the order of the code, whose contract cites this. It needs no
-- belief: Grammar says what the answers mean. A refusal is its number alone; its place is 0 (prunepocket SiteFile).
use Rattle.std.specs.Prelude.{ℕ, ◌+◌, ◌-◌, Bool, true, false, cond, ◌&&◌, ◌||◌, List, [], ◌∷◌, length, drop, ltb, eqb}
use Rattle.std.specs.Prelude.{Result, Ok, Err}
use Rattle.refusals.specs.declared.RefusalNumber.{RefusalNumber}
use Rattle.sdp.specs.Digits.{are_digits, value_of}
use Rattle.sdp.specs.Line.{prefix, crlf, digits_in, greatest_group, most_digits}

-- these bytes stand at the front of a list
unfoldable pub starts_with : List ℕ → List ℕ → Bool
starts_with [] d = true
starts_with (b ∷ bytes) [] = false
starts_with (b ∷ bytes) (x ∷ d) = eqb x b && starts_with bytes d

-- the grammar but for the count of digits, which are one or more
unfoldable pub keeps_grammar : List ℕ → Bool
keeps_grammar d =
    ltb (length prefix + length crlf) (length d)
    && starts_with prefix d
    && starts_with crlf (drop (length d - length crlf) d)
    && are_digits (digits_in d)

-- more than ten digits
abbrev pub are_too_many : List ℕ → Bool
are_too_many digits = ltb most_digits (length digits)

-- refusal 22, of digits: more than ten, or a value above the greatest group number
abbrev pub is_bad_group : List ℕ → Bool
is_bad_group digits = are_too_many digits || ltb greatest_group (value_of digits)

-- The group number of a line: 21 where the grammar is not kept, then 22.
unfoldable pub group_in : List ℕ → Result ℕ RefusalNumber
group_in d =
    cond (keeps_grammar d)
    (cond (is_bad_group (digits_in d)) (Err RefusalNumber.BadGroup) (Ok (value_of (digits_in d))))
    (Err RefusalNumber.BadLine)
