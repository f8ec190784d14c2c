-- The places of the member table (document 01): a single word marks the places held, its lowest bit the first place.
use Rattle.std.specs.Prelude.{ℕ, zero, suc, ◌+◌, ◌-◌, ◌/◌, ◌%◌, ◌^◌, Bool, true, false, not, cond, ◌&&◌, eqb, ltb}
use Rattle.std.specs.Int.Count.{count_trailing_zeros}

-- whether a place is held: the word's bit there, counted from 0 at the lowest, is 1
unfoldable pub is_held : ℕ → ℕ → Bool
is_held place word = eqb (word / 2 ^ place % 2) 1

-- whether the first place is free, for a word that is halved from place to place
abbrev pub is_free : ℕ → Bool
is_free word = eqb (word % 2) 0

-- the bit of a place: 1 where a test is true, else 0
abbrev pub bit : Bool → ℕ
bit true = 1
bit false = 0

-- how many places below k are held
unfoldable pub held_in : ℕ → ℕ → ℕ
held_in zero word = 0
held_in (suc place) word = held_in place word + bit (is_held place word)

-- of a word of k bits, the lowest free place, or k where none is free: the trailing zeros of its complement.
-- `IsLowestFree` (Free) says what that means.
unfoldable pub lowest_free : ℕ → ℕ → ℕ
lowest_free k word = count_trailing_zeros k (2 ^ k - 1 - word)

-- ---- one of 64 places

-- whether there is such a place, and it is held
abbrev pub holds_place : ℕ → ℕ → Bool
holds_place word place = ltb place 64 && is_held place word

-- the word with a place held too: its bit is added, unless it is held or there is no such place
unfoldable pub with_place : ℕ → ℕ → ℕ
with_place word place = cond (ltb place 64 && not (is_held place word)) (word + 2 ^ place) word

-- the word with a place free: its bit is taken away, unless it is free or there is no such place
unfoldable pub without_place : ℕ → ℕ → ℕ
without_place word place = cond (ltb place 64 && is_held place word) (word - 2 ^ place) word
