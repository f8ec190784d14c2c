-- The plain register (document 01): what the call history gives. It is fed the calls' arguments and nothing from the
-- table.
use Rattle.std.specs.Prelude.{ℕ, Bool, false, not, cond, ◌&&◌, ◌||◌, List, [], ◌∷◌, ltb, eqb, length}
use Rattle.refusals.specs.Refusals.{other_stream, other_origin, received_far, rtp_aged, badly_presented, no_room, no_member}
use Rattle.times.specs.Times.{is_far, is_aged, is_badly_presented, is_fresh}
use Rattle.origin.specs.declared.Origin.{Origin}
use Rattle.origin.specs.Origins.{same_origin}
use Rattle.register.specs.declared.Opening.{Opening}
use Rattle.register.specs.declared.Record.{Record}
use Rattle.register.specs.declared.Reading.{Reading}

-- a row is a source number, its origin and its standing report
abbrev pub Rows : Type 0
Rows = List Record

-- a farewell is a BYE source: its number and its origin
pub data Call : Type 0 where
  report : Record → Reading → Call
  farewell : ℕ → Origin → Call
  sweep : Reading → Call

-- 12: group 0 or 4,294,967,295, or rate outside 1 to 192,000
abbrev pub is_refused_opening : Opening → Bool
is_refused_opening o = eqb o.group 0 || eqb o.group 4294967295 || eqb o.rate 0 || ltb 192000 o.rate

-- ---- rows

-- those for which a test is true, in order
unfoldable pub filter : {A : Type 0} → (A → Bool) → List A → List A
filter test [] = []
filter test (x ∷ xs) = cond (test x) (x ∷ filter test xs) (filter test xs)

unfoldable pub any : {A : Type 0} → (A → Bool) → List A → Bool
any test [] = false
any test (x ∷ xs) = test x || any test xs

-- P 1, which any number but 0 stands for
abbrev pub presents : Record → Bool
presents row = not (eqb row.report.p 0)

abbrev pub has_number : ℕ → Record → Bool
has_number source row = eqb row.source source

-- a row has this number with another origin
abbrev pub is_held_elsewhere : Rows → ℕ → Origin → Bool
is_held_elsewhere rows source origin = any (λ row. has_number source row && not (same_origin row.origin origin)) rows

-- the last accepted report stands: it replaces the report in its number's row, whose origin check 14 found to be the
-- same, or makes a new row
unfoldable pub renewed : Rows → Record → Rows
renewed [] x = x ∷ []
renewed (row ∷ rows) x = cond (has_number x.source row) (x ∷ rows) (row ∷ renewed rows x)

-- ---- the three calls: a refusal's number, or 0 that there is none

-- 13: another group or media source
abbrev pub is_other_stream : Opening → (group media : ℕ) → Bool
is_other_stream o group media = not (eqb group o.group && eqb media o.media)

-- checks 13 to 18 in order: the first that applies is the answer. Check 14 applies where the number is held elsewhere,
-- 18 where it is new and there is no room.
unfoldable pub report_checks : Opening → Record → Reading → (elsewhere full : Bool) → ℕ
report_checks o x at elsewhere full =
    cond (is_other_stream o x.report.group x.report.media) other_stream
    (cond elsewhere other_origin
    (cond (is_far at.ntp x.report.received) received_far
    (cond (is_aged o.rate at.rtp x.report.rtp) rtp_aged
    (cond (presents x && is_badly_presented x.report.received x.report.presented) badly_presented
    (cond full no_room
    0)))))

-- a new member, and 64 rows
abbrev pub has_no_room : Rows → ℕ → Bool
has_no_room rows source = not (any (has_number source) rows) && eqb (length rows) 64

abbrev pub report_answer : Opening → Rows → Record → Reading → ℕ
report_answer o rows x at =
    report_checks o x at (is_held_elsewhere rows x.source x.origin) (has_no_room rows x.source)

-- a number that no row has gets 19, one whose row has another origin 14
unfoldable pub farewell_checks : (held elsewhere : Bool) → ℕ
farewell_checks held elsewhere = cond (not held) no_member (cond elsewhere other_origin 0)

abbrev pub farewell_answer : Rows → ℕ → Origin → ℕ
farewell_answer rows source origin = farewell_checks (any (has_number source) rows) (is_held_elsewhere rows source origin)

unfoldable pub answer : Opening → Rows → Call → ℕ
answer o rows (Call.report x at) = report_answer o rows x at
answer o rows (Call.farewell source origin) = farewell_answer rows source origin
answer o rows (Call.sweep at) = 0

-- whether a row is fresh at a reading
abbrev pub fresh_at : Opening → Reading → Record → Bool
fresh_at o at row = is_fresh o.rate at.ntp at.rtp row.report.received row.report.rtp

-- the rows that an accepted call leaves
abbrev pub accepted : Opening → Rows → Call → Rows
accepted o rows (Call.report x at) = renewed rows x
accepted o rows (Call.farewell source origin) = filter (λ row. not (has_number source row)) rows
accepted o rows (Call.sweep at) = filter (fresh_at o at) rows

-- refused, a call changes no row
unfoldable pub after : Opening → Rows → Call → Rows
after o rows call = cond (eqb (answer o rows call) 0) (accepted o rows call) rows

-- ---- any list of calls: every answer, and the rows afterwards

unfoldable pub answers : Opening → Rows → List Call → List ℕ
answers o rows [] = []
answers o rows (call ∷ calls) = answer o rows call ∷ answers o (after o rows call) calls

unfoldable pub after_all : Opening → Rows → List Call → Rows
after_all o rows [] = rows
after_all o rows (call ∷ calls) = after_all o (after o rows call) calls
