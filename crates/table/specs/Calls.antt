-- What opening and the three calls answer, and the table that they hand back, for every table whatsoever.
use Rattle.std.specs.Prelude.{ℕ, Bool, not, cond, ◌&&◌, ltb, eqb, get_or, set}
use Rattle.origin.specs.declared.Origin.{Origin}
use Rattle.origin.specs.Origins.{same_origin}
use Rattle.refusals.specs.Refusals.{bad_opening, other_origin}
use Rattle.places.specs.Places.{lowest_free, with_place, without_place}
use Rattle.register.specs.declared.Record.{Record}
use Rattle.register.specs.declared.Member.{Member}
use Rattle.register.specs.declared.Opening.{Opening}
use Rattle.register.specs.Register.{Rows, Call, is_refused_opening, report_checks, farewell_checks, fresh_at}
use Rattle.register.specs.Tallies.{raised}
use Rattle.choosing.specs.Marked.{nowhere, nobody, filter_word}
use Rattle.table.specs.declared.Table.{Table}
use Rattle.table.specs.declared.Answered.{Answered}
use Rattle.table.specs.Members.{opening_of, empty_table, records_in, place_in}

-- what stands for no table beside a 12: an empty one for group 0, which no opening is taken for. It is no refusal in
-- itself, since it takes reports of group 0: the number is to be looked at first.
abbrev pub no_table : Table
no_table = empty_table (record { group = 0; media = 0; rate = 0 })

-- refused with 12, opening gives no table
unfoldable pub opened : Opening → Answered
opened o =
    cond (is_refused_opening o) (record { number = bad_opening; table = no_table })
    (record { number = 0; table = empty_table o })

-- ---- a number's place

abbrev pub is_member : Table → ℕ → Bool
is_member t source = ltb (place_in t source) 64

-- a place below 64 whose record has another origin, whether or not the place is held: a number's own place is
abbrev pub elsewhere_at : Rows → ℕ → Origin → Bool
elsewhere_at records place origin = ltb place 64 && not (same_origin (get_or records place nowhere).origin origin)

-- the number's member has another origin
abbrev pub is_elsewhere : Table → ℕ → Origin → Bool
is_elsewhere t source origin = elsewhere_at (records_in t) (place_in t source) origin

-- no member stands at a place, and 64 places are held
abbrev pub no_room_at : ℕ → ℕ → Bool
no_room_at place held = not (ltb place 64) && eqb (lowest_free 64 held) 64

-- a new member, and 64 places held
abbrev pub is_without_room : Table → ℕ → Bool
is_without_room t source = no_room_at (place_in t source) t.held

-- ---- what a call answers

unfoldable pub number_of : Table → Call → ℕ
number_of t (Call.report x at) =
    report_checks (opening_of t) x at (is_elsewhere t x.source x.origin) (is_without_room t x.source)
number_of t (Call.farewell source origin) = farewell_checks (is_member t source) (is_elsewhere t source origin)
number_of t (Call.sweep at) = 0

-- ---- what a call leaves

-- the table with another word of places held
abbrev pub with_held : Table → ℕ → Table
with_held t word =
    record { opening = t.opening; held = word; members = t.members }

-- the table with a member at a place
abbrev pub with_member : Table → ℕ → Member → Table
with_member t place m =
    record { opening = t.opening; held = t.held; members = set t.members place m }

-- the tally at a place
abbrev pub tally_at : Table → ℕ → ℕ
tally_at t place = (get_or t.members place nobody).tally

-- an accepted report stands at its number's place, with the tally there, or with a tally of 0 at the lowest free one,
-- which is held from now on
unfoldable pub filed : Table → Record → Table
filed t x =
    cond (is_member t x.source)
    (with_member t (place_in t x.source) (record { «record» = x; tally = tally_at t (place_in t x.source) }))
    (with_member (with_held t (with_place t.held (lowest_free 64 t.held))) (lowest_free 64 t.held)
    (record { «record» = x; tally = 0 }))

-- the table that an accepted call leaves
abbrev pub accepted_by : Table → Call → Table
accepted_by t (Call.report x at) = filed t x
accepted_by t (Call.farewell source origin) = with_held t (without_place t.held (place_in t source))
accepted_by t (Call.sweep at) = with_held t (filter_word (fresh_at (opening_of t) at) t.held (records_in t))

-- the table with one refusal more tallied at a place
abbrev pub with_raised : Table → ℕ → Table
with_raised t place =
    with_member t place
    (record { «record» = (get_or t.members place nobody).«record»; tally = raised (tally_at t place) })

-- the source number that a report or a farewell is under; no sweep is refused
abbrev pub source_of : Call → ℕ
source_of (Call.report x at) = x.source
source_of (Call.farewell source origin) = source
source_of (Call.sweep at) = 0

-- the table that a refused call leaves: 14 is tallied at the place of the member that holds the call's source number;
-- no other refusal changes anything
unfoldable pub refused_by : Table → Call → ℕ → Table
refused_by t call number = cond (eqb number other_origin) (with_raised t (place_in t (source_of call))) t

-- the answer with the table afterwards
unfoldable pub answered : Table → Call → Answered
answered t call =
    record {
      number = number_of t call;
      table = cond (eqb (number_of t call) 0) (accepted_by t call) (refused_by t call (number_of t call));
    }
