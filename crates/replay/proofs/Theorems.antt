-- Demand 3 of a replay.
use Prim.Native.Nat.{ℕ, ◌*◌, ◌≤◌}
use Rattle.std.specs.Prelude.{Result, Ok}
use Rattle.refusals.specs.declared.RefusalNumber.{RefusalNumber}
use mathlib.Core.Path.{◌≡◌, refl, sym, ap, ◌∙◌}
use mathlib.Core.Bool.{true, false}
use mathlib.Core.List.{List, [], ◌∷◌, ◌++◌, append-nil}
use lib.ListN.{length, drop}
use lib.Dec.{ltb}
use lib.Seq.{drop_at}
use borrow.Author.Tests.{lt-ltb, le-ltb}
use Rattle.packet.specs.Bytes.{AreBytes}
use Rattle.register.specs.declared.Opening.{Opening}
use Rattle.register.specs.Register.{is_refused_opening}
use Rattle.register.specs.Tallies.{records_of}
use Rattle.register.specs.Choosing.{choice}
use Rattle.register.specs.Promise.{AllInRange}
use Rattle.register.specs.Letter.{BadOpening}
use Rattle.register.proofs.History.{answers-behind}
use Rattle.register.proofs.Tallies.{rows_after-all}
use Rattle.register.proofs.Letter.Lines.{untold}
use Rattle.register.proofs.Letter.Tests.{tells_bad_opening}
use Rattle.register.specs.declared.Target.{Target}
use Rattle.table.specs.declared.Chosen.{Chosen}
use Rattle.table.specs.Calls.{opened}
use Rattle.table.specs.History.{answers_from, Reached}
use Rattle.table.proofs.Agreement.Theorem.{demand3, reached, reached-answers}
use Rattle.replay.specs.Recording.{RecordedDatagram, entry_count, opening_in, entries_in, is_bad_layout}
use Rattle.replay.specs.Replay.{entry_row_length, entry_calls, entry_row_with, entry_row, calls_of_entries, entry_rows}
use Rattle.replay.specs.Replay.{choice_at_end, replayed, replayed_rows}
use Rattle.replay.specs.Reaching.{table_after_entries, members_after_entries, answers_to}
use Rattle.replay.specs.Reaching.{RecordingReached, EveryRecording}
use Rattle.replay.proofs.Laws.Layout.{entries_count}
use Rattle.replay.proofs.Laws.Calls.{entries_in_range, calls_one_more, rows-length, row_of_entry, choice-behind}

entries_length : (f : List ℕ) → length (entries_in f) ≡ entry_count f
unfolding entries_in
entries_length f = entries_count f _ _ _

first_entries_in_range :
    (f : List ℕ) → AreBytes f → (before later : List RecordedDatagram) → entries_in f ≡ before ++ later
    → AllInRange (calls_of_entries before)
unfolding entries_in
first_entries_in_range f = entries_in_range f _ _ _

-- 12 does not apply
untold_opening : (o : Opening) → (BadOpening o → ⊥) → is_refused_opening o ≡ false
untold_opening o = untold _ (tells_bad_opening o)

-- an entry's row counts the register's answers
row_answered :
    (o : Opening) (before : List RecordedDatagram) (e : RecordedDatagram)
    → Reached o (calls_of_entries before) (table_after_entries o before) (members_after_entries o before)
    → entry_row (table_after_entries o before) e ≡ entry_row_with e (answers_to o before e)
unfolding entry_row records_of
row_answered o before e here =
    let calls = calls_of_entries before in
    let same : answers_from (table_after_entries o before) (entry_calls e) ≡ answers_to o before e =
    rw (calls_one_more before e, answers-behind o calls (entry_calls e), ← (rows_after-all o [] calls))
    (reached-answers o calls _ _ (entry_calls e) here) in
    ap (entry_row_with e) same

-- the choice behind the last entry is the register's
choice-answered :
    (o : Opening) (before : List RecordedDatagram) (last : RecordedDatagram)
    → let es = before ++ last ∷ [] in
    Reached o (calls_of_entries es) (table_after_entries o es) (members_after_entries o es)
    → choice_at_end (opened o).table es ≡ choice o last.at (records_of (members_after_entries o es))
choice-answered o before last here =
    choice-behind (opened o).table before last
    ∙ ap (λ (c : Chosen). c.choice) ((demand3 o _ _ _ here).chosen last.at)

-- a recording that is taken
module _
    (f lent : List ℕ) (bytes : AreBytes f) (good : is_bad_layout f ≡ false) (takes : BadOpening (opening_in f) → ⊥)
    (room : entry_row_length * entry_count f ≤ length lent) where
  enough : ltb (length lent) (entry_row_length * entry_count f) ≡ false
  enough = le-ltb _ _ room

  taken-answer :
      replayed f lent
      ≡ Ok
      (record { entries = entry_count f; choice = choice_at_end (opened (opening_in f)).table (entries_in f) })
  unfolding replayed
  taken-answer = rw (good, untold_opening (opening_in f) takes, enough) refl

  taken-rows :
      replayed_rows f lent
      ≡ entry_rows (opened (opening_in f)).table (entries_in f) ++ drop (entry_row_length * entry_count f) lent
  unfolding replayed_rows
  taken-rows = rw (good, untold_opening (opening_in f) takes, enough) refl

  first_reached :
      (before later : List RecordedDatagram) → entries_in f ≡ before ++ later →
      Reached (opening_in f) (calls_of_entries before) (table_after_entries (opening_in f) before)
      (members_after_entries (opening_in f) before)
  first_reached before later e =
      reached (opening_in f) (calls_of_entries before) takes (first_entries_in_range f bytes before later e)

  recording_reached : RecordingReached f lent
  recording_reached =
      let o = opening_in f in
      record {
        reached = first_reached;
        count = entries_length f;
        row_of_each_entry = λ before later e is.
            rw (taken-rows, is)
            (row_of_entry (opened o).table before later e _
            ∙ row_answered o before e (first_reached before (e ∷ later) is));
        behind =
            rw taken-rows
            (drop_at (entry_rows (opened o).table (entries_in f)) _ _
            (rows-length (opened o).table (entries_in f) ∙ ap (λ (n : ℕ). entry_row_length * n) (entries_length f)));
        target = λ before last is.
            taken-answer
            ∙ ap (λ (c : Result Target RefusalNumber). Ok (record { entries = entry_count f; choice = c }))
            (rw is
            (choice-answered o before last (first_reached (before ++ last ∷ []) [] (is ∙ sym (append-nil _)))));
        none = λ is.
            let zero : entry_count f ≡ 0 = sym (entries_length f) ∙ ap length is in
            taken-answer ∙ rw (is, zero) refl;
      }

-- Every recording: 25, 12 and 10 change nothing, and one that is taken is its entries' calls.
pub every_recording : EveryRecording
unfolding replayed replayed_rows
every_recording =
    record {
      bad_layout_refused = λ f lent bad. record { refused_with = rw bad refl; unchanged = rw bad refl };
      bad_opening_refused = λ f lent good bad.
          let told : is_refused_opening (opening_in f) ≡ true = (tells_bad_opening (opening_in f)).1 bad in
          record { refused_with = rw (good, told) refl; unchanged = rw (good, told) refl };
      few_rows = λ f lent good takes less.
          let told : is_refused_opening (opening_in f) ≡ false = untold_opening (opening_in f) takes in
          let few : ltb (length lent) (entry_row_length * entry_count f) ≡ true = lt-ltb _ _ less in
          record { refused_with = rw (good, told, few) refl; unchanged = rw (good, told, few) refl };
      replays = recording_reached;
    }
