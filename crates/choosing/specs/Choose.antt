-- Choosing among members at places, of which a word marks those held: one pass marks the counted members, another finds
-- the latest. Of a table, choosing looks at the rate, the word and the members' records.
use Rattle.std.specs.Prelude.{ℕ, Bool, cond, ◌&&◌, [], ◌∷◌, eqb, ℤ, Result, Err}
use Rattle.refusals.specs.declared.RefusalNumber.{RefusalNumber}
use Rattle.places.specs.Places.{held_in}
use Rattle.register.specs.declared.Record.{Record}
use Rattle.register.specs.declared.Reading.{Reading}
use Rattle.register.specs.declared.Target.{Target}
use Rattle.register.specs.declared.Opening.{Opening}
use Rattle.register.specs.Register.{Rows, presents, fresh_at}
use Rattle.register.specs.Choosing.{lateness_of, target_of}
use Rattle.choosing.specs.Latest.{latest}
use Rattle.choosing.specs.declared.Marks.{Marks}
use Rattle.choosing.specs.Marked.{marked_at, filter_word}

-- an opening at a rate: freshness and lateness look at no more of one
abbrev pub at_rate : ℕ → Opening
at_rate rate = record { group = 0; media = 0; rate = rate }

-- the places whose member is fresh
abbrev pub fresh_word : ℕ → Reading → ℕ → Rows → ℕ
fresh_word rate at held records = filter_word (fresh_at (at_rate rate) at) held records

-- the places whose member is fresh and reports presentation
abbrev pub presenting_word : ℕ → Reading → ℕ → Rows → ℕ
presenting_word rate at held records = filter_word (λ m. fresh_at (at_rate rate) at m && presents m) held records

-- both words
abbrev pub marks_at : ℕ → Reading → ℕ → Rows → Marks
marks_at rate at held records =
    record { fresh = fresh_word rate at held records; presenting = presenting_word rate at held records }

-- arrival mode: no fresh member reports presentation
abbrev pub arrives : ℕ → Reading → ℕ → Rows → Bool
arrives rate at held records = eqb (presenting_word rate at held records) 0

-- the members that report presentation count; where none does, all that are fresh
abbrev pub counted_in : Marks → ℕ
counted_in marks = cond (eqb marks.presenting 0) marks.fresh marks.presenting

-- the places whose member is counted
abbrev pub counted_word : ℕ → Reading → ℕ → Rows → ℕ
counted_word rate at held records = counted_in (marks_at rate at held records)

-- the latest row, or 20 without rows
unfoldable pub latest_target : (Record → ℤ) → ℕ → Rows → Result Target RefusalNumber
latest_target late count [] = Err RefusalNumber.NoneCounted
latest_target late count (row ∷ rows) = target_of (latest late row rows) count

-- the latest of the members that a word marks, all of them counted
abbrev pub choice_in : ℕ → Reading → ℕ → Rows → Result Target RefusalNumber
choice_in rate at word records = latest_target (lateness_of (at_rate rate) at) (held_in 64 word) (marked_at word records)

-- the choice at a rate and a reading
unfoldable pub choice_among : ℕ → Reading → ℕ → Rows → Result Target RefusalNumber
choice_among rate at held records = choice_in rate at (counted_word rate at held records) records
