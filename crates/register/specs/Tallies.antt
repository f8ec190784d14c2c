-- Document 02, E5: beside each row of the plain register its tally, kept from call to call. What the customer is told
-- of a tally is about the calls and their answers (Letter, `TallyIs`); theorems tie the two.
use Rattle.std.specs.Prelude.{ℕ, ◌+◌, Bool, false, cond, ◌&&◌, List, [], ◌∷◌, ltb, eqb}
use Rattle.refusals.specs.Refusals.{other_origin}
use Rattle.register.specs.declared.Member.{Member}
use Rattle.register.specs.declared.Opening.{Opening}
use Rattle.register.specs.Register.{Rows, Call, has_number, answer, after}

-- a member is a record, which is its row in the plain register, and its tally
abbrev pub Members : Type 0
Members = List Member

unfoldable pub records_of : Members → Rows
records_of [] = []
records_of (m ∷ ms) = m.«record» ∷ records_of ms

-- where a tally stops
abbrev pub tally_limit : ℕ
tally_limit = 4294967295

-- the lesser of a number and the limit
abbrev pub cut_at_limit : ℕ → ℕ
cut_at_limit n = cond (ltb n tally_limit) n tally_limit

-- a tally with one refusal more, up to the limit
abbrev pub raised : ℕ → ℕ
raised tally = cut_at_limit (tally + 1)

-- a report or a farewell under this number; a sweep is under none
abbrev pub is_under : ℕ → Call → Bool
is_under source (Call.report x at) = has_number source x
is_under source (Call.farewell other origin) = eqb other source
is_under source (Call.sweep at) = false

-- ---- from call to call

-- the tally kept for a number: its member's, or 0 where no member has it
unfoldable pub tally_in : Members → ℕ → ℕ
tally_in [] source = 0
tally_in (m ∷ ms) source = cond (has_number source m.«record») m.tally (tally_in ms source)

-- 14 raises the tally of the number that it is given under; no other answer changes one
abbrev pub tally_behind : Call → (number source tally : ℕ) → ℕ
tally_behind call number source tally = cond (eqb number other_origin && is_under source call) (raised tally) tally

-- each row with its number's tally
unfoldable pub with_tallies : (ℕ → ℕ) → Rows → Members
with_tallies tally [] = []
with_tallies tally (row ∷ rows) = record { «record» = row; tally = tally row.source } ∷ with_tallies tally rows

-- the tally kept for a number after a call: the one before, and one higher where the call got 14 under it
abbrev pub tally_after : Opening → Members → Call → ℕ → ℕ
tally_after o ms call source = tally_behind call (answer o (records_of ms) call) source (tally_in ms source)

-- the members that a call leaves: the rows are the plain register's
unfoldable pub members_after : Opening → Members → Call → Members
members_after o ms call = with_tallies (tally_after o ms call) (after o (records_of ms) call)

unfoldable pub members_after_all : Opening → Members → List Call → Members
members_after_all o ms [] = ms
members_after_all o ms (call ∷ calls) = members_after_all o (members_after o ms call) calls
