-- What the call that reads the SDP line answers, and the memory of the group number afterwards.
use Rattle.std.specs.Prelude.{ℕ}
use Rattle.std.specs.Prelude.{Result, Ok, Err}
use Rattle.refusals.specs.declared.RefusalNumber.{RefusalNumber}
use Rattle.prunepocket.specs.declared.Answer.{Answer}
use Rattle.prunepocket.specs.Answers.{no_refusal, at_place_zero}

abbrev pub group_answer : Result ℕ RefusalNumber → Answer
group_answer (Ok group) = no_refusal
group_answer (Err number) = at_place_zero number

abbrev pub group_after : Result ℕ RefusalNumber → ℕ → ℕ
group_after (Ok group) before = group
group_after (Err number) before = before
