-- A choice as C holds it: numbers alone.
use Rattle.register.specs.declared.Target.{Target}
use Rattle.refusals.specs.Refusals.{refusal_number}
use Rattle.std.specs.Prelude.{Result, Ok, Err}
use Rattle.refusals.specs.declared.RefusalNumber.{RefusalNumber}
use Rattle.table.specs.declared.Table.{Table}
use Rattle.prunepocket.specs.declared.members.Followed.{Followed}

-- the target that stands for none
abbrev pub no_target : Target
no_target = record { source = 0; group = 0; media = 0; received = 0; rtp = 0; presented = 0; counted = 0 }

unfoldable pub followed_of : Result Target RefusalNumber → Table → Followed
followed_of (Ok x) t = record { number = 0; target = x; table = t }
followed_of (Err n) t = record { number = refusal_number n; target = no_target; table = t }
