-- The answers of the exported functions, and what stands in the lent memory afterwards: a value where the call was not
-- refused, and what was there before where it was.
use Rattle.std.specs.Prelude.{ℕ, Bool, not, eqb}
use Rattle.refusals.specs.Refusals.{refusal_number}
use Rattle.refusals.specs.declared.RefusalNumber.{RefusalNumber}
use Rattle.std.specs.Prelude.{Option, Some, None, Result, Ok, Err}
use Rattle.idms.specs.declared.Placed.{Placed}
use Rattle.idms.specs.Rows.{field_of}
use Rattle.idms.specs.declared.Refusal.{Refusal}
use Rattle.prunepocket.specs.declared.Answer.{Answer}

-- whether reduced size was agreed, as C says it: 0 that it was not, and every other number that it was
abbrev pub agreed : ℕ → Bool
agreed n = not (eqb n 0)

-- number 0 at place 0: the call was not refused
abbrev pub no_refusal : Answer
no_refusal = record { number = 0; place = 0 }

-- a refusal at place 0
abbrev pub at_place_zero : RefusalNumber → Answer
at_place_zero number = record { number = refusal_number number; place = 0 }

abbrev pub refusal_answer : Refusal → Answer
refusal_answer r = record { number = refusal_number r.number; place = r.place }

-- of a call that puts a count: its answer, and the count's memory afterwards
abbrev pub count_answer : Result ℕ Refusal → Answer
count_answer (Ok n) = no_refusal
count_answer (Err r) = refusal_answer r

abbrev pub count_after : Result ℕ Refusal → ℕ → ℕ
count_after (Ok n) before = n
count_after (Err r) before = before

-- of a call that puts a field of an item: its answer, 9 at place 0 also where the item has no such field, and the
-- field's memory afterwards
abbrev pub cell_answer : Option ℕ → Answer
cell_answer (Some v) = no_refusal
cell_answer None = at_place_zero RefusalNumber.NoSuchItem

abbrev pub cell_after : Option ℕ → ℕ → ℕ
cell_after (Some v) before = v
cell_after None before = before

abbrev pub field_answer : Result Placed Refusal → ℕ → Answer
field_answer (Ok x) field = cell_answer (field_of x field)
field_answer (Err r) field = refusal_answer r

abbrev pub field_after : Result Placed Refusal → ℕ → ℕ → ℕ
field_after (Ok x) field before = cell_after (field_of x field) before
field_after (Err r) field before = before
