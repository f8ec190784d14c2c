-- What a report or a farewell does to a table, which is a change of one place at most: its number, the place, the member
-- that stands there afterwards, which is the one from before where the call changes nothing, and the word of places held.
use Rattle.std.specs.Prelude.{ℕ, Bool, false, not, cond, ltb, eqb, get_or, set}
use Rattle.origin.specs.declared.Origin.{Origin}
use Rattle.origin.specs.Origins.{same_origin}
use Rattle.refusals.specs.Refusals.{other_origin}
use Rattle.places.specs.Places.{lowest_free, with_place, without_place}
use Rattle.register.specs.declared.Record.{Record}
use Rattle.register.specs.declared.Member.{Member}
use Rattle.register.specs.declared.Reading.{Reading}
use Rattle.register.specs.declared.Opening.{Opening}
use Rattle.register.specs.Register.{report_checks, farewell_checks}
use Rattle.register.specs.Tallies.{raised}
use Rattle.choosing.specs.Marked.{nobody}
use Rattle.table.specs.declared.Table.{Table}
use Rattle.table.specs.declared.filing.Filing.{Filing}
use Rattle.table.specs.Members.{opening_of, place_in}

-- the member at a source number's place after a report that got a number, or, x being its own record, after a farewell
-- that was refused: 14 is tallied, and any other refusal leaves it as it was
abbrev pub member_after : Member → Record → ℕ → Member
member_after there x number =
    cond (eqb number other_origin) (record { «record» = there.«record»; tally = raised there.tally })
    (cond (eqb number 0) (record { «record» = x; tally = there.tally }) there)

-- ---- a report of a source number with a member, which stands at a place

-- its origin is another
abbrev pub has_other_origin : Member → Origin → Bool
has_other_origin there origin = not (same_origin there.«record».origin origin)

abbrev pub known_number : Opening → Member → Record → Reading → ℕ
known_number o there x at = report_checks o x at (has_other_origin there x.origin) false

abbrev pub known_filing : ℕ → ℕ → Member → Record → ℕ → Filing
known_filing held place there x number =
    record { number = number; place = place; held = held; member = member_after there x number }

-- ---- a report of a source number without a member

abbrev pub is_full : ℕ → Bool
is_full held = eqb (lowest_free 64 held) 64

abbrev pub new_number : Opening → ℕ → Record → Reading → ℕ
new_number o held x at = report_checks o x at false (is_full held)

-- accepted, it stands at the lowest free place; refused, it leaves the first place with the member there
abbrev pub new_filing : ℕ → Member → Record → ℕ → Filing
new_filing held first x number =
    let free = lowest_free 64 held in
    cond (eqb number 0)
    (record { number = 0; place = free; held = with_place held free; member = record { «record» = x; tally = 0 } })
    (record { number = number; place = 0; held = held; member = first })

-- ---- a report of any source number, by its place, or 64 where it has no member, and who stands there or else at the
-- first place

abbrev pub report_number_at : Opening → ℕ → ℕ → Member → Record → Reading → ℕ
report_number_at o held place there x at = cond (ltb place 64) (known_number o there x at) (new_number o held x at)

abbrev pub report_filing : ℕ → ℕ → Member → Record → ℕ → Filing
report_filing held place there x number =
    cond (ltb place 64) (known_filing held place there x number) (new_filing held there x number)

-- ---- a farewell, by the same place and who stands there

abbrev pub farewell_number_at : ℕ → Member → Origin → ℕ
farewell_number_at place there origin = farewell_checks (ltb place 64) (has_other_origin there origin)

-- accepted, the place is held no more; refused with 14, that is tallied there; a number without a member leaves the
-- first place with the member there
abbrev pub farewell_filing : ℕ → ℕ → Member → ℕ → Filing
farewell_filing held place there number =
    cond (ltb place 64)
    (cond (eqb number 0) (record { number = 0; place = place; held = without_place held place; member = there })
    (record { number = number; place = place; held = held; member = member_after there there.«record» number }))
    (record { number = number; place = 0; held = held; member = there })

-- ---- in a table

-- who stands at a place, or else at the first
abbrev pub member_there : Table → ℕ → Member
member_there t place = get_or t.members (cond (ltb place 64) place 0) nobody

-- what a report does
unfoldable pub filing_of : Table → Record → Reading → Filing
filing_of t x at =
    let place = place_in t x.source in
    let there = member_there t place in
    report_filing t.held place there x (report_number_at (opening_of t) t.held place there x at)

-- the table with that stored: it is the one that the call leaves
abbrev pub with_filing : Table → Filing → Table
with_filing t f =
    record {
      opening = t.opening;
      held = f.held;
      members = set t.members f.place f.member;
    }
