-- Laws of running entries: an entry begins, its calls come off one by one, and its row is put when none is left.
use Prim.Native.Nat.{ℕ, suc, ◌+◌, ◌-◌, ◌*◌, ◌≤◌}
use Rattle.std.specs.Prelude.{Result, Ok, Err}
use Rattle.idms.specs.declared.Refusal.{Refusal}
use mathlib.Core.Path.{◌≡◌, refl, sym, ap, subst, ◌∙◌}
use mathlib.Core.Bool.{false}
use mathlib.Core.List.{List, [], ◌∷◌, ◌++◌}
use lib.ListN.{length, drop}
use lib.Seq.{sets, length-sets}
use native.Mathlib.Omega.{arith}
use Rattle.idms.specs.declared.Item.{Item}
use Rattle.idms.specs.declared.Placed.{Placed}
use Rattle.idms.specs.declared.Report.{Report}
use Rattle.idms.specs.declared.Settings.{Settings}
use Rattle.origin.specs.declared.Origin.{Origin}
use Rattle.refusals.specs.declared.RefusalNumber.{RefusalNumber}
use Rattle.refusals.specs.Refusals.{refusal_number}
use Rattle.packet.specs.Checks.{Check, passed, refused}
use Rattle.datagram.specs.Datagram.{datagram_check, datagram_items}
use Rattle.datagram.specs.Answers.{refusal, item_count}
use Rattle.rtcp.specs.declared.cursor.Cursor.{Cursor}
use Rattle.rtcp.specs.Cursor.{start, given}
use Rattle.rtcp.specs.Answers.{cursor_on}
use Rattle.rtcp.proofs.Theorems.{count_bound}
use Rattle.register.specs.declared.Reading.{Reading}
use Rattle.register.specs.Register.{Call}
use Rattle.table.specs.declared.Table.{Table}
use Rattle.table.specs.declared.Answered.{Answered}
use Rattle.table.specs.Calls.{answered}
use Rattle.table.specs.Choose.{choice_of}
use Rattle.table.specs.Intake.{record_of}
use Rattle.table.specs.History.{answers_from, table_from}
use Rattle.intake.specs.Datagrams.{calls_of, calls_in}
use Rattle.intake.proofs.Laws.{cursor_items, sets_append, sets_front}
use Rattle.replay.specs.declared.steps.Row.{Row}
use Rattle.replay.specs.Recording.{RecordedDatagram}
use Rattle.replay.specs.Replay.{entry_calls, accepted_in, first_refusal, entry_row_length, entry_row_unless, entry_row}
use Rattle.replay.specs.Replay.{calls_of_entries, entry_rows, last_reading, choice_at_end}
use Rattle.replay.specs.Steps.{items_in, first_row, row_after, cells_of, row_with_more}
use Rattle.replay.proofs.Laws.Rows.{first_of_two-none, row_more, row_whole}

-- ---- an item's part of the calls that are left

module _
    (origin : Origin) (at : Reading) (d : List ℕ) (left : ℕ) (c : Cursor) (x : Placed) (next : Cursor)
    (e : given left d c ≡ x ∷ given (left - 1) d next) where
  by_item :
      (item : Item) → x.item ≡ item
      → calls_in origin at (given left d c) ≡ calls_of origin at item ++ calls_in origin at (given (left - 1) d next)
  unfolding calls_in
  by_item item i =
      ap (calls_in origin at) e
      ∙ ap (λ (j : Item). calls_of origin at j ++ calls_in origin at (given (left - 1) d next)) i

  pub report-left :
      (r : Report) → x.item ≡ Item.Report r
      → calls_in origin at (given left d c)
      ≡ Call.report (record_of r origin) at ∷ calls_in origin at (given (left - 1) d next)
  report-left r i = by_item (Item.Report r) i

  pub farewell-left :
      (source : ℕ) → x.item ≡ Item.Farewell source
      → calls_in origin at (given left d c)
      ≡ Call.farewell source origin ∷ calls_in origin at (given (left - 1) d next)
  farewell-left source i = by_item (Item.Farewell source) i

  pub settings-left :
      (s : Settings) → x.item ≡ Item.Settings s
      → calls_in origin at (given left d c) ≡ calls_in origin at (given (left - 1) d next)
  settings-left s i = by_item (Item.Settings s) i

-- ---- an entry begins

-- these calls are an entry's, and this row so far becomes its row
abbrev pub Begins : Table → RecordedDatagram → List Call → Row → Type 0
Begins t e calls row = (calls ≡ entry_calls e) × (row_with_more row (answers_from t calls) ≡ entry_row t e)

module _ (t : Table) (e : RecordedDatagram) where
  -- the calls of as many items as a count says
  abbrev counted : Result ℕ Refusal → List Call
  counted count = calls_in e.origin e.at (given (items_in count) e.datagram start)

  begins_passed :
      datagram_check false e.datagram ≡ passed
      → Begins t e (counted (Ok (length (datagram_items e.datagram))))
      (first_row (Ok (length (datagram_items e.datagram))))
  unfolding entry_calls entry_row first_row cursor_on
  begins_passed k =
      let d = e.datagram in
      let n = length (datagram_items d) in
      let opens : cursor_on false d ≡ Ok (n, start) = rw k refl in
      let calls : counted (Ok n) ≡ entry_calls e =
      ap (calls_in e.origin e.at) (cursor_items false d n start opens).1 ∙ rw k refl in
      let numbers = answers_from t (entry_calls e) in
      let sum : 0 + accepted_in numbers ≡ accepted_in numbers = omega arith in (
        calls,
        ap (λ (those : List Call). row_with_more (first_row (Ok n)) (answers_from t those)) calls
            ∙ ap (λ (accepted : ℕ). n ∷ accepted ∷ first_refusal numbers ∷ []) sum
            ∙ ap (λ (check : Check). entry_row_unless check n numbers) (sym k),
      )

  begins_refused :
      (number : RefusalNumber) (place : ℕ) → datagram_check false e.datagram ≡ refused number place
      → Begins t e (counted (Err (refusal number place))) (first_row (Err (refusal number place)))
  unfolding entry_calls entry_row first_row given calls_in answers_from accepted_in first_refusal
  begins_refused number place k = rw (k, first_of_two-none (refusal_number number)) (refl, refl)

  pub entry_begins :
      (count : Result ℕ Refusal) → count ≡ item_count false e.datagram → Begins t e (counted count) (first_row count)
  unfolding item_count
  entry_begins count o = go (datagram_check false e.datagram) refl
    where
      go :
          (k : Check) → datagram_check false e.datagram ≡ k → Begins t e (counted count) (first_row count)
      go passed k =
          let counts : Ok (length (datagram_items e.datagram)) ≡ count = sym (rw k at o) in
          subst (λ (c : Result ℕ Refusal). Begins t e (counted c) (first_row c)) counts (begins_passed k)
      go (refused number place) k =
          let counts : Err (refusal number place) ≡ count = sym (rw k at o) in
          subst (λ (c : Result ℕ Refusal). Begins t e (counted c) (first_row c)) counts (begins_refused number place k)

-- no datagram has more items than words
pub begins_few :
    (d : List ℕ) (count : Result ℕ Refusal) → count ≡ item_count false d
    → (first_row count).accepted + items_in count ≤ 512
unfolding first_row
begins_few d (Ok n) o =
    let bound : _ = count_bound false d n (sym o) in
    omega (arith, bound.0, bound.1)
begins_few d (Err r) o = omega arith

-- ---- EntriesLeft: what the loop keeps. The entries `es₀` were to be run on the table `t₀`; the table is `t`, in entry
-- i `calls` are left and its row is `row` so far, its reading is `at`, and behind it the entries `later` are left.

pub record EntriesLeft
    (t₀ : Table) (rows₀ : List ℕ) (es₀ : List RecordedDatagram)
    (t : Table) (rows : List ℕ) (i : ℕ) (calls : List Call) (row : Row) (at : Reading)
    (later : List RecordedDatagram) : Type 0 where
  pub long : length rows ≡ length rows₀
  pub room : entry_row_length * (i + 1 + length later) ≤ length rows₀
  pub table_is : table_from t (calls ++ calls_of_entries later) ≡ table_from t₀ (calls_of_entries es₀)
  pub rows_are :
      sets rows (entry_row_length * i)
      (row_with_more row (answers_from t calls) ++ entry_rows (table_from t calls) later)
      ≡ sets rows₀ 0 (entry_rows t₀ es₀)
  pub choice_is : choice_of (table_from t₀ (calls_of_entries es₀)) (last_reading at later) ≡ choice_at_end t₀ es₀

module _ (t : Table) (rows : List ℕ) (e : RecordedDatagram) (later : List RecordedDatagram) where
  pub entries_left_start :
      (calls : List Call) (row : Row) → Begins t e calls row → entry_row_length * (1 + length later) ≤ length rows
      → EntriesLeft t rows (e ∷ later) t rows 0 calls row e.at later
  unfolding calls_of_entries entry_rows
  entries_left_start calls row b h =
      record {
        long = refl;
        room = omega arith;
        table_is = ap (λ (those : List Call). table_from t (those ++ calls_of_entries later)) b.0;
        rows_are = ap (λ (cells : List ℕ). sets rows 0 (cells ++ entry_rows (table_from t calls) later)) b.1
            ∙ ap (λ (those : List Call). sets rows 0 (entry_row t e ++ entry_rows (table_from t those) later)) b.0;
        choice_is = refl;
      }

module _
    {t₀ : Table} {rows₀ : List ℕ} {es₀ : List RecordedDatagram}
    {t : Table} {rows : List ℕ} {i : ℕ} {calls : List Call} {row : Row} {at : Reading}
    {later : List RecordedDatagram}
    (l : EntriesLeft t₀ rows₀ es₀ t rows i calls row at later) where
  -- a call is made
  pub entries_left_call :
      (call : Call) (rest : List Call) (a : Answered) → calls ≡ call ∷ rest → a ≡ answered t call
      → EntriesLeft t₀ rows₀ es₀ a.table rows i rest (row_after row a.number) at later
  unfolding table_from answers_from
  entries_left_call call rest a e g =
      let numbers : answers_from t calls ≡ a.number ∷ answers_from a.table rest =
      ap (answers_from t) e ∙ ap (λ (b : Answered). b.number ∷ answers_from b.table rest) (sym g) in
      let after : table_from t calls ≡ table_from a.table rest =
      ap (table_from t) e ∙ ap (λ (b : Answered). table_from b.table rest) (sym g) in
      record {
        long = l.long;
        room = l.room;
        table_is = ap (λ (b : Answered). table_from b.table (rest ++ calls_of_entries later)) g
            ∙ ap (λ (those : List Call). table_from t (those ++ calls_of_entries later)) (sym e)
            ∙ l.table_is;
        rows_are = ap
            (λ (cells : List ℕ).
            sets rows (entry_row_length * i) (cells ++ entry_rows (table_from a.table rest) later))
            (sym (row_more row a.number (answers_from a.table rest)) ∙ ap (row_with_more row) (sym numbers))
            ∙ ap
            (λ (u : Table).
            sets rows (entry_row_length * i) (row_with_more row (answers_from t calls) ++ entry_rows u later))
            (sym after)
            ∙ l.rows_are;
        choice_is = l.choice_is;
      }

  -- an item is passed by
  pub entries_left_same :
      (rest : List Call) → calls ≡ rest → EntriesLeft t₀ rows₀ es₀ t rows i rest row at later
  entries_left_same rest e =
      subst (λ (those : List Call). EntriesLeft t₀ rows₀ es₀ t rows i those row at later) e l

  -- no call is left: the row is whole
  module _ (none : calls ≡ []) (rows₁ : List ℕ) (put : rows₁ ≡ sets rows (entry_row_length * i) (cells_of row)) where
    whole :
        sets rows₁ (entry_row_length * (i + 1)) (entry_rows t later) ≡ sets rows₀ 0 (entry_rows t₀ es₀)
    unfolding table_from answers_from
    whole =
        let behind : entry_row_length * (i + 1) ≡ entry_row_length * i + 3 = omega arith in
        ap (λ (those : List ℕ). sets those (entry_row_length * (i + 1)) (entry_rows t later)) put
        ∙ ap
        (λ (k : ℕ). sets (sets rows (entry_row_length * i) (cells_of row)) k (entry_rows t later)) behind
        ∙ sym (sets_append rows (cells_of row) (entry_rows t later) (entry_row_length * i))
        ∙ ap
        (λ (cells : List ℕ). sets rows (entry_row_length * i) (cells ++ entry_rows t later)) (sym (row_whole row))
        ∙ ap
        (λ (those : List Call).
        sets rows (entry_row_length * i)
        (row_with_more row (answers_from t those) ++ entry_rows (table_from t those) later)) (sym none)
        ∙ l.rows_are

    long_still : length rows₁ ≡ length rows₀
    long_still = ap length put ∙ length-sets rows (entry_row_length * i) (cells_of row) ∙ l.long

    -- the next entry begins
    pub entries_left_next :
        (e : RecordedDatagram) (later₁ : List RecordedDatagram) (calls₁ : List Call) (row₁ : Row)
        → later ≡ e ∷ later₁ → Begins t e calls₁ row₁
        → EntriesLeft t₀ rows₀ es₀ t rows₁ (i + 1) calls₁ row₁ e.at later₁
    unfolding calls_of_entries entry_rows last_reading
    entries_left_next e later₁ calls₁ row₁ f b =
        let count : length later ≡ suc (length later₁) = ap length f in
        record {
          long = long_still;
          room = omega (arith, l.room, count);
          table_is = ap (λ (those : List Call). table_from t (those ++ calls_of_entries later₁)) b.0
              ∙ ap (λ (es : List RecordedDatagram). table_from t (calls_of_entries es)) (sym f)
              ∙ ap (λ (those : List Call). table_from t (those ++ calls_of_entries later)) (sym none)
              ∙ l.table_is;
          rows_are = ap
              (λ (cells : List ℕ).
              sets rows₁ (entry_row_length * (i + 1)) (cells ++ entry_rows (table_from t calls₁) later₁)) b.1
              ∙ ap
              (λ (those : List Call).
              sets rows₁ (entry_row_length * (i + 1)) (entry_row t e ++ entry_rows (table_from t those) later₁)) b.0
              ∙ ap (λ (es : List RecordedDatagram). sets rows₁ (entry_row_length * (i + 1)) (entry_rows t es)) (sym f)
              ∙ whole;
          choice_is = ap
              (λ (es : List RecordedDatagram).
              choice_of (table_from t₀ (calls_of_entries es₀)) (last_reading at es)) (sym f)
              ∙ l.choice_is;
        }

    -- no entry is left
    pub entries_left_end :
        later ≡ [] → length (entry_rows t₀ es₀) ≤ length rows₀
        → (choice_of t at ≡ choice_at_end t₀ es₀)
        × (rows₁ ≡ entry_rows t₀ es₀ ++ drop (length (entry_rows t₀ es₀)) rows₀)
    unfolding calls_of_entries entry_rows last_reading table_from
    entries_left_end f h =
        let table_is : t ≡ table_from t₀ (calls_of_entries es₀) =
        ap (λ (es : List RecordedDatagram). table_from t (calls_of_entries es)) (sym f)
        ∙ ap (λ (those : List Call). table_from t (those ++ calls_of_entries later)) (sym none)
        ∙ l.table_is in (
          ap (λ (u : Table). choice_of u at) table_is
              ∙ ap
              (λ (es : List RecordedDatagram).
              choice_of (table_from t₀ (calls_of_entries es₀)) (last_reading at es)) (sym f)
              ∙ l.choice_is,
          ap (λ (es : List RecordedDatagram). sets rows₁ (entry_row_length * (i + 1)) (entry_rows t es)) (sym f)
              ∙ whole
              ∙ sets_front rows₀ (entry_rows t₀ es₀) h,
        )
