-- A recording run through a table (document 02, E7): what each entry gives, and what is chosen at the end. Reduced size
-- is off.
use Rattle.std.specs.Prelude.{ℕ, ◌+◌, ◌*◌, List, [], ◌∷◌, ◌++◌, false, cond, length, drop, ltb, eqb}
use Rattle.std.specs.Prelude.{Result, Ok, Err}
use Rattle.register.specs.declared.Target.{Target}
use Rattle.refusals.specs.declared.RefusalNumber.{RefusalNumber}
use Rattle.refusals.specs.Refusals.{refusal_number}
use Rattle.packet.specs.Checks.{Check, passed, refused}
use Rattle.datagram.specs.Datagram.{datagram_check, datagram_items}
use Rattle.register.specs.declared.Reading.{Reading}
use Rattle.register.specs.Register.{Call, is_refused_opening}
use Rattle.table.specs.declared.Table.{Table}
use Rattle.table.specs.Calls.{opened}
use Rattle.table.specs.Choose.{choice_of}
use Rattle.table.specs.History.{answers_from, table_from}
use Rattle.intake.specs.Reaching.{datagram_calls}
use Rattle.replay.specs.declared.Replayed.{Replayed}
use Rattle.replay.specs.Recording.{RecordedDatagram, entry_count, opening_in, entries_in, is_bad_layout}

-- ---- one entry

-- calls, or none where a check refused
abbrev pub calls_unless : Check → List Call → List Call
calls_unless passed calls = calls
calls_unless (refused number place) calls = []

-- its reports and farewells as calls, in item order, under its origin and reading; none where the reader refuses it
unfoldable pub entry_calls : RecordedDatagram → List Call
entry_calls e = calls_unless (datagram_check false e.datagram) (datagram_calls e.datagram e.origin e.at)

-- of the numbers that its calls get: how many are 0, which says accepted
unfoldable pub accepted_in : List ℕ → ℕ
accepted_in [] = 0
accepted_in (number ∷ numbers) = cond (eqb number 0) (1 + accepted_in numbers) (accepted_in numbers)

-- and the first that is not, which is a refusal's, or 0
unfoldable pub first_refusal : List ℕ → ℕ
first_refusal [] = 0
first_refusal (number ∷ numbers) = cond (eqb number 0) (first_refusal numbers) number

abbrev pub entry_row_length : ℕ
entry_row_length = 3

-- items, items accepted, first refusal number or 0. Settings are items but no calls: neither accepted nor refused. A
-- datagram that the reader refuses has 0 items, 0 accepted and the reader's number.
abbrev pub entry_row_unless : Check → ℕ → List ℕ → List ℕ
entry_row_unless passed items numbers = items ∷ accepted_in numbers ∷ first_refusal numbers ∷ []
entry_row_unless (refused number place) items numbers = 0 ∷ 0 ∷ refusal_number number ∷ []

-- its row, with the numbers that its calls get
abbrev pub entry_row_with : RecordedDatagram → List ℕ → List ℕ
entry_row_with e numbers =
    entry_row_unless (datagram_check false e.datagram) (length (datagram_items e.datagram)) numbers

-- from the table that the entries before it left
unfoldable pub entry_row : Table → RecordedDatagram → List ℕ
entry_row t e = entry_row_with e (answers_from t (entry_calls e))

-- ---- all entries, in order

unfoldable pub calls_of_entries : List RecordedDatagram → List Call
calls_of_entries [] = []
calls_of_entries (e ∷ es) = entry_calls e ++ calls_of_entries es

unfoldable pub entry_rows : Table → List RecordedDatagram → List ℕ
entry_rows t [] = []
entry_rows t (e ∷ es) = entry_row t e ++ entry_rows (table_from t (entry_calls e)) es

-- the reading of the last of them, or the one given where there are none
unfoldable pub last_reading : Reading → List RecordedDatagram → Reading
last_reading at [] = at
last_reading at (e ∷ es) = last_reading e.at es

-- the choice at the last entry's reading; without entries 20
abbrev pub choice_at_end : Table → List RecordedDatagram → Result Target RefusalNumber
choice_at_end t [] = Err RefusalNumber.NoneCounted
choice_at_end t (e ∷ es) = choice_of (table_from t (calls_of_entries (e ∷ es))) (last_reading e.at es)

-- ---- a whole recording: 25, then 12, then document 01's 10 where the lent rows are too few; after each the rows are
-- as they were

unfoldable pub replayed : List ℕ → List ℕ → Result Replayed RefusalNumber
replayed f lent =
    cond (is_bad_layout f) (Err RefusalNumber.BadLayout)
    (cond (is_refused_opening (opening_in f)) (Err RefusalNumber.BadOpening)
    (cond (ltb (length lent) (entry_row_length * entry_count f)) (Err RefusalNumber.ShortBuffer)
    (Ok
    (record { entries = entry_count f; choice = choice_at_end (opened (opening_in f)).table (entries_in f) }))))

-- the lent rows afterwards: those of the entries, and behind them what was there
unfoldable pub replayed_rows : List ℕ → List ℕ → List ℕ
replayed_rows f lent =
    cond (is_bad_layout f) lent
    (cond (is_refused_opening (opening_in f)) lent
    (cond (ltb (length lent) (entry_row_length * entry_count f)) lent
    (entry_rows (opened (opening_in f)).table (entries_in f) ++ drop (entry_row_length * entry_count f) lent)))
