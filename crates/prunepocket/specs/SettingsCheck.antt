-- A verdict on a settings packet as C holds it: numbers alone.
use Rattle.table.specs.declared.Table.{Table}
use Rattle.refusals.specs.Refusals.{refusal_number}
use Rattle.std.specs.Prelude.{Result, Ok, Err, true, false, Bool}
use Rattle.refusals.specs.declared.RefusalNumber.{RefusalNumber}
use Rattle.prunepocket.specs.declared.members.SettingsAnswered.{SettingsAnswered}

unfoldable pub settings_answered : Result Bool RefusalNumber → Table → SettingsAnswered
settings_answered (Ok true) t = record { number = 0; suits = 1; table = t }
settings_answered (Ok false) t = record { number = 0; suits = 0; table = t }
settings_answered (Err n) t = record { number = refusal_number n; suits = 0; table = t }
