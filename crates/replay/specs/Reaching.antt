-- Demand 3 of a replay (document 02, E7). `replayed` and `replayed_rows` stand for what the call answers and what it
-- leaves in the lent rows. A recording that is taken is the calls of its entries, one by one, on the table that is
-- opened for its head: so all that table History and register Letter say of a table that calls reach, they say of the
-- table that any first entries leave, though the call hands none back; each entry's row counts the register's answers,
-- and the choice is the register's. What a program prints of it is tested and not proved.
-- To be believed besides: Recording; of Replay `entry_row_length`, `entry_calls`, `entry_row_with`, `calls_of_entries`
-- and what they use, `calls_in` (intake Datagrams) and `record_of` (table Intake) among it; and what reading gives
-- (datagram Datagram with what it uses of `packet` and `packet_checks`).
use Rattle.std.specs.Prelude.{ℕ, ◌*◌, ◌≤◌, ◌<◌, ◌≡◌, true, false, List, [], ◌∷◌, ◌++◌, length, take, drop}
use Rattle.std.specs.Prelude.{Ok, Err}
use Rattle.refusals.specs.declared.RefusalNumber.{RefusalNumber}
use Rattle.packet.specs.Bytes.{AreBytes}
use Rattle.register.specs.declared.Opening.{Opening}
use Rattle.register.specs.Register.{answers}
use Rattle.register.specs.Tallies.{Members, records_of, members_after_all}
use Rattle.register.specs.Choosing.{choice}
use Rattle.register.specs.Letter.{BadOpening}
use Rattle.table.specs.declared.Table.{Table}
use Rattle.table.specs.Calls.{opened}
use Rattle.table.specs.History.{table_from, Reached}
use Rattle.replay.specs.Recording.{RecordedDatagram, entry_count, opening_in, entries_in, is_bad_layout}
use Rattle.replay.specs.Replay.{entry_row_length, entry_row_with, calls_of_entries, replayed, replayed_rows}

-- the table and the register's members after some entries
abbrev pub table_after_entries : Opening → List RecordedDatagram → Table
table_after_entries o entries = table_from (opened o).table (calls_of_entries entries)

abbrev pub members_after_entries : Opening → List RecordedDatagram → Members
members_after_entries o entries = members_after_all o [] (calls_of_entries entries)

-- the register's answers to the calls of an entry, which are behind those to the calls of the entries before it
abbrev pub answers_to : Opening → List RecordedDatagram → RecordedDatagram → List ℕ
answers_to o before e = drop (length (calls_of_entries before)) (answers o [] (calls_of_entries (before ++ e ∷ [])))

-- a recording, and the rows lent for its entries
module _ (f lent : List ℕ) where
  -- what demand 3 says of one that is taken
  pub record RecordingReached : Type 0 where
    -- the calls of any first entries, none and all included, are such as demand 3 speaks of (table History,
    -- `EveryList`)
    pub reached :
        (before later : List RecordedDatagram) → entries_in f ≡ before ++ later →
        Reached (opening_in f) (calls_of_entries before) (table_after_entries (opening_in f) before)
        (members_after_entries (opening_in f) before)
    -- there are as many entries as the head says
    pub count : length (entries_in f) ≡ entry_count f
    -- each has its row, made of the register's answers to its calls
    pub row_of_each_entry :
        (before later : List RecordedDatagram) (e : RecordedDatagram) → entries_in f ≡ before ++ e ∷ later →
        take entry_row_length (drop (entry_row_length * length before) (replayed_rows f lent))
        ≡ entry_row_with e (answers_to (opening_in f) before e)
    -- behind the rows all is as it was
    pub behind :
        drop (entry_row_length * entry_count f) (replayed_rows f lent) ≡ drop (entry_row_length * entry_count f) lent
    -- the answer is the register's choice at the last entry's reading, 20 included
    pub target :
        (before : List RecordedDatagram) (last : RecordedDatagram) → entries_in f ≡ before ++ last ∷ [] →
        replayed f lent
        ≡ Ok
        (record {
          entries = entry_count f;
          choice = choice (opening_in f) last.at (records_of (members_after_entries (opening_in f) (entries_in f)));
        })
    -- without entries it is 20
    pub none :
        entries_in f ≡ [] → replayed f lent ≡ Ok (record { entries = 0; choice = Err RefusalNumber.NoneCounted })

  -- what is said of one that is refused: that refusal is the answer, and the lent rows are as they were (demand 1)
  pub record RecordingRefused (refused : RefusalNumber) : Type 0 where
    pub refused_with : replayed f lent ≡ Err refused
    pub unchanged : replayed_rows f lent ≡ lent

-- of every file: 25, then 12, then 10; and where none applies, demand 3
pub record EveryRecording : Type 0 where
  pub bad_layout_refused : (f lent : List ℕ) → is_bad_layout f ≡ true → RecordingRefused f lent RefusalNumber.BadLayout
  pub bad_opening_refused :
      (f lent : List ℕ) → is_bad_layout f ≡ false → BadOpening (opening_in f) →
      RecordingRefused f lent RefusalNumber.BadOpening
  pub few_rows :
      (f lent : List ℕ) → is_bad_layout f ≡ false → (BadOpening (opening_in f) → ⊥) →
      length lent < entry_row_length * entry_count f → RecordingRefused f lent RefusalNumber.ShortBuffer
  pub replays :
      (f lent : List ℕ) → AreBytes f → is_bad_layout f ≡ false → (BadOpening (opening_in f) → ⊥) →
      entry_row_length * entry_count f ≤ length lent → RecordingReached f lent
