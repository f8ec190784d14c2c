-- The numbers of refusals: none is 0, so that 0 is answered exactly where nothing is refused.
use Rattle.std.proofs.Common.{◌≡◌, Bool, true, false, cond, Result, Ok, Err, refl, arith}
use Rattle.std.proofs.lemmas.Grind.{common_steps}
use Rattle.refusals.specs.declared.RefusalNumber.{RefusalNumber}
use Rattle.refusals.specs.Refusals.{refusal_number, answer_number}

pub number_positive : (refused : RefusalNumber) → refusal_number refused ≡ 0 → ⊥
number_positive refused e = grind (arith, common_steps)

pub answer_none : (checked : Result Unit RefusalNumber) → answer_number checked ≡ 0 → checked ≡ Ok tt
answer_none (Ok tt) e = refl
answer_none (Err refused) e = absurd (number_positive refused e)

pub number_first :
    (test : Bool) (refused : RefusalNumber) (rest : Result Unit RefusalNumber) →
    answer_number (cond test (Err refused) rest) ≡ cond test (refusal_number refused) (answer_number rest)
number_first true refused rest = refl
number_first false refused rest = refl
