-- What C gets for a replay, as numbers alone (document 02, E7).
use Rattle.std.specs.Prelude.{ℕ}
use Rattle.refusals.specs.Refusals.{refusal_number}
use Rattle.std.specs.Prelude.{Result, Ok, Err}
use Rattle.refusals.specs.declared.RefusalNumber.{RefusalNumber}
use Rattle.refusals.specs.Refusals.{none_counted}
use Rattle.register.specs.declared.Target.{Target}
use Rattle.replay.specs.declared.Replayed.{Replayed}
use Rattle.prunepocket.specs.declared.recordings.RecordingAnswered.{RecordingAnswered}
use Rattle.prunepocket.specs.Following.{no_target}

-- 0 where there is a target
abbrev pub choice_number : Result Target RefusalNumber → ℕ
choice_number (Ok x) = 0
choice_number (Err n) = refusal_number n

abbrev pub choice_target : Result Target RefusalNumber → Target
choice_target (Ok x) = x
choice_target (Err n) = no_target

-- after a refusal there are no entries, and no target: the choice is 20
unfoldable pub recording_answered : Result Replayed RefusalNumber → RecordingAnswered
recording_answered (Ok r) =
    record {
      number = 0;
      entries = r.entries;
      choice = choice_number r.choice;
      target = choice_target r.choice;
    }
recording_answered (Err number) =
    record { number = refusal_number number; entries = 0; choice = none_counted; target = no_target }
