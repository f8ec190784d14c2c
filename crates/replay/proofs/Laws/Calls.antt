-- Laws of entries taken together: the calls that they are, their rows, and the choice behind the last of them.
use Prim.Native.Nat.{ℕ, suc, zero, ◌+◌, ◌*◌}
use mathlib.Core.Path.{◌≡◌, refl, sym, ap, ◌∙◌}
use mathlib.Core.Bool.{false}
use mathlib.Core.List.{List, [], ◌∷◌, ◌++◌, append-nil, append_assoc}
use lib.ListN.{length, take, drop, length-append}
use lib.Seq.{take_at, drop_at, get_or-drop}
use native.Mathlib.Omega.{arith}
use Rattle.packet.specs.Bytes.{AreBytes}
use Rattle.packet.specs.Checks.{Check, passed, refused}
use Rattle.datagram.specs.Datagram.{datagram_check}
use Rattle.register.specs.declared.Reading.{Reading}
use Rattle.register.specs.Register.{Call}
use Rattle.register.specs.Promise.{AllInRange}
use Rattle.register.proofs.History.{ranges-append}
use Rattle.table.specs.declared.Table.{Table}
use Rattle.table.specs.Choose.{choice_of}
use Rattle.table.specs.History.{table_from}
use Rattle.table.proofs.Agreement.Theorem.{table-append}
use Rattle.intake.proofs.Theorems.{datagram_in_range}
use Rattle.replay.specs.Recording.{RecordedDatagram, entry_size, body_length, entries_from}
use Rattle.replay.specs.Replay.{entry_row_length, entry_calls, entry_row, calls_of_entries, entry_rows}
use Rattle.replay.specs.Replay.{last_reading, choice_at_end}

-- ---- each call is in range

-- a part of a file of bytes is bytes
bytes-taken : (n : ℕ) (l : List ℕ) → AreBytes l → AreBytes (take n l)
bytes-taken zero l h i = omega arith
bytes-taken (suc n) [] h i = h i
bytes-taken (suc n) (x ∷ xs) h zero = h zero
bytes-taken (suc n) (x ∷ xs) h (suc i) = bytes-taken n xs (λ j. h (suc j)) i

bytes_in_part : (f : List ℕ) (n place : ℕ) → AreBytes f → AreBytes (take n (drop place f))
bytes_in_part f n place h = bytes-taken n (drop place f) (λ i. rw (get_or-drop place f i 0) (h (place + i)))

entry_in_range : (e : RecordedDatagram) → AreBytes e.datagram → AllInRange (entry_calls e)
unfolding entry_calls AllInRange
entry_in_range e h = go (datagram_check false e.datagram) refl
  where
    go : (check : Check) → datagram_check false e.datagram ≡ check → AllInRange (entry_calls e)
    go passed checked = rw checked (datagram_in_range false e.datagram e.origin e.at h checked)
    go (refused number place) checked = rw checked tt

-- of any first entries of a file
pub entries_in_range :
    (f : List ℕ) (n p body : ℕ) → AreBytes f → (before later : List RecordedDatagram)
    → entries_from f n p body ≡ before ++ later → AllInRange (calls_of_entries before)
unfolding entries_from calls_of_entries AllInRange
entries_in_range f n p body h [] later e = tt
entries_in_range f zero p body h (x ∷ xs) later e = let z : ◌≡◌ {A = ℕ} 0 1 = cc in absurd (omega arith)
entries_in_range f (suc n) p body h (x ∷ xs) later e =
    let first : take (body_length f p) (drop body f) ≡ x.datagram = cc in
    let rest : entries_from f n (p + entry_size) (body + body_length f p) ≡ xs ++ later = cc in
    ranges-append (entry_calls x) (calls_of_entries xs)
    (entry_in_range x (rw first at (bytes_in_part f (body_length f p) body h)))
    (entries_in_range f n (p + entry_size) (body + body_length f p) h xs later rest)

-- ---- entries after entries

-- the calls of one entry more
pub calls_one_more :
    (es : List RecordedDatagram) (e : RecordedDatagram)
    → calls_of_entries (es ++ e ∷ []) ≡ calls_of_entries es ++ entry_calls e
unfolding calls_of_entries
calls_one_more [] e = append-nil (entry_calls e)
calls_one_more (x ∷ xs) e =
    ap (λ (calls : List Call). entry_calls x ++ calls) (calls_one_more xs e)
    ∙ sym (append_assoc (entry_calls x) (calls_of_entries xs) (entry_calls e))

rows_append :
    (t : Table) (es more : List RecordedDatagram)
    → entry_rows t (es ++ more) ≡ entry_rows t es ++ entry_rows (table_from t (calls_of_entries es)) more
unfolding entry_rows calls_of_entries table_from
rows_append t [] more = refl
rows_append t (e ∷ es) more =
    let next = table_from t (entry_calls e) in
    ap (λ (rows : List ℕ). entry_row t e ++ rows) (rows_append next es more)
    ∙ sym (append_assoc (entry_row t e) (entry_rows next es) (entry_rows (table_from next (calls_of_entries es)) more))
    ∙ ap (λ (u : Table). (entry_row t e ++ entry_rows next es) ++ entry_rows u more)
    (sym (table-append t (entry_calls e) (calls_of_entries es)))

-- ---- where the rows stand

row_length : (t : Table) (e : RecordedDatagram) → length (entry_row t e) ≡ entry_row_length
unfolding entry_row
row_length t e = go (datagram_check false e.datagram) refl
  where
    go : (check : Check) → datagram_check false e.datagram ≡ check → length (entry_row t e) ≡ entry_row_length
    go passed checked = rw checked refl
    go (refused number place) checked = rw checked refl

pub rows-length : (t : Table) (es : List RecordedDatagram) → length (entry_rows t es) ≡ entry_row_length * length es
unfolding entry_rows
rows-length t [] = refl
rows-length t (e ∷ es) =
    let next = table_from t (entry_calls e) in
    omega (arith, length-append (entry_row t e) (entry_rows next es), row_length t e, rows-length next es)

-- an entry's row stands behind those of the entries before it
pub row_of_entry :
    (t : Table) (before later : List RecordedDatagram) (e : RecordedDatagram) (tail : List ℕ)
    → take entry_row_length (drop (entry_row_length * length before) (entry_rows t (before ++ e ∷ later) ++ tail))
    ≡ entry_row (table_from t (calls_of_entries before)) e
unfolding entry_rows
row_of_entry t before later e tail =
    rw (
      rows_append t before (e ∷ later),
      append_assoc (entry_rows t before),
      drop_at (entry_rows t before) _ _ (rows-length t before),
      append_assoc,
    ) (take_at (entry_row _ e) _ entry_row_length (row_length _ e))

-- ---- the choice

last-reading :
    (at : Reading) (es : List RecordedDatagram) (last : RecordedDatagram) → last_reading at (es ++ last ∷ []) ≡ last.at
unfolding last_reading
last-reading at [] last = refl
last-reading at (e ∷ es) last = last-reading e.at es last

pub choice-behind :
    (t : Table) (es : List RecordedDatagram) (last : RecordedDatagram)
    → choice_at_end t (es ++ last ∷ []) ≡ choice_of (table_from t (calls_of_entries (es ++ last ∷ []))) last.at
unfolding last_reading
choice-behind t [] last = refl
choice-behind t (e ∷ es) last =
    ap (choice_of (table_from t (calls_of_entries (e ∷ es ++ last ∷ [])))) (last-reading e.at es last)
