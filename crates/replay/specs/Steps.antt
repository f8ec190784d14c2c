-- What the code holds while it takes an entry: where its body lies, the step before, how many of its items are left,
-- and its row so far.
use Rattle.std.specs.Prelude.{ℕ, ◌+◌, ◌-◌, List, [], ◌∷◌, cond, eqb, take, drop}
use Rattle.refusals.specs.Refusals.{refusal_number}
use Rattle.std.specs.Prelude.{Option, Some, None, Result, Ok, Err}
use Rattle.std.specs.Result.{result_unwrap_or}
use Rattle.idms.specs.declared.Refusal.{Refusal}
use Rattle.idms.specs.declared.Placed.{Placed}
use Rattle.rtcp.specs.declared.cursor.Cursor.{Cursor}
use Rattle.rtcp.specs.Cursor.{next_of, start}
use Rattle.replay.specs.declared.layout.Listed.{Listed}
use Rattle.replay.specs.declared.steps.Row.{Row}
use Rattle.replay.specs.Recording.{entry_reading, entry_origin, body_length}
use Rattle.replay.specs.Replay.{accepted_in, first_refusal}

-- the entry at a place, whose body starts at `body`
abbrev pub listed_at : List ℕ → ℕ → ℕ → Listed
listed_at f p body =
    record { at = entry_reading f p; origin = entry_origin f p; body = body; end = body + body_length f p }

-- its datagram
abbrev pub datagram_of : List ℕ → Listed → List ℕ
datagram_of f entry = take (entry.end - entry.body) (drop entry.body f)

-- ---- its items

-- where the item behind a step starts; behind an end an entry begins, with the first of its items
abbrev pub cursor_behind : Option (Placed × Cursor) → Cursor
cursor_behind (Some (x, next)) = next
cursor_behind None = start

-- the next one, where so many are left behind the cursor
unfoldable pub next_in : List ℕ → ℕ → Cursor → Option (Placed × Cursor)
next_in d left c = cond (eqb left 0) None (next_of d c)

-- how many are to be taken
abbrev pub items_in : Result ℕ Refusal → ℕ
items_in count = result_unwrap_or count 0

-- ---- a row so far

-- before the first item
unfoldable pub first_row : Result ℕ Refusal → Row
first_row (Ok n) = record { items = n; accepted = 0; number = 0 }
first_row (Err r) = record { items = 0; accepted = 0; number = refusal_number r.number }

-- the first of two numbers that is not 0, if one is not
abbrev pub first_of_two : ℕ → ℕ → ℕ
first_of_two number later = cond (eqb number 0) later number

-- the row behind a call that gets a number
unfoldable pub row_after : Row → ℕ → Row
row_after row number =
    record {
      items = row.items;
      accepted = cond (eqb number 0) (row.accepted + 1) row.accepted;
      number = first_of_two row.number number;
    }

-- as it stands in the lent rows
abbrev pub cells_of : Row → List ℕ
cells_of row = row.items ∷ row.accepted ∷ row.number ∷ []

-- and as it will, once calls that get these numbers have been made
abbrev pub row_with_more : Row → List ℕ → List ℕ
row_with_more row numbers =
    row.items ∷ (row.accepted + accepted_in numbers) ∷ first_of_two row.number (first_refusal numbers) ∷ []
