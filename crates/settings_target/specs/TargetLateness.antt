-- How late a settings packet asks a loudspeaker to play (for document 02, E10): document 01's lateness of the packet's
-- three times at the loudspeaker's own reading. A loudspeaker is told its group, media source and rate, as a table is.
-- The packet's sender is not looked at. The papers leave open which packets are refused here: docs/DECISIONS.md.
use Rattle.std.specs.Prelude.{ℕ, Bool, not, cond, ◌&&◌, eqb, ℤ, pos, Result, Ok, Err}
use Rattle.std.specs.Result.{result_and, result_unwrap_or}
use Rattle.refusals.specs.declared.RefusalNumber.{RefusalNumber}
use Rattle.refusals.specs.Refusals.{refusal_number}
use Rattle.idms.specs.declared.Settings.{Settings}
use Rattle.times.specs.Times.{is_far, is_aged, settings_are_badly_presented}
use Rattle.register.specs.declared.Reading.{Reading}
use Rattle.register.specs.declared.Opening.{Opening}
use Rattle.register.specs.Register.{is_refused_opening, is_other_stream}
use Rattle.register.specs.Choosing.{times_lateness}

-- 17, of a settings packet at a loudspeaker: as in a check of settings, but presented 0, which our own server writes in
-- arrival mode, is taken. Document 01's delay is then 0.
abbrev pub target_is_badly_presented : (received presented : ℕ) → Bool
target_is_badly_presented received presented = not (eqb presented 0) && settings_are_badly_presented received presented

-- 12, 13, 15, 16, then 17: the first that applies is the refusal, if any does
unfoldable pub target_checks : Opening → Settings → Reading → Result Unit RefusalNumber
target_checks o s at =
    cond (is_refused_opening o) (Err RefusalNumber.BadOpening)
    (cond (is_other_stream o s.group s.media) (Err RefusalNumber.OtherStream)
    (cond (is_far at.ntp s.received) (Err RefusalNumber.ReceivedFar)
    (cond (is_aged o.rate at.rtp s.rtp) (Err RefusalNumber.RtpAged)
    (cond (target_is_badly_presented s.received s.presented) (Err RefusalNumber.BadlyPresented)
    (Ok tt)))))

-- the lateness, or a refusal
abbrev pub lateness_asked : Opening → Settings → Reading → Result ℤ RefusalNumber
lateness_asked o s at =
    result_and (target_checks o s at) (Ok (times_lateness o at s.received s.rtp s.presented))

-- ---- the two numbers of an answer to C: 0 and the lateness, or a refusal's number and 0

abbrev pub number_answered : Result ℤ RefusalNumber → ℕ
number_answered (Ok late) = 0
number_answered (Err refused) = refusal_number refused

abbrev pub late_answered : Result ℤ RefusalNumber → ℤ
late_answered a = result_unwrap_or a (pos 0)
