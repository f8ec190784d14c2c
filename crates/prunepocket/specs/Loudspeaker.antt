-- What C is answered of a settings packet at a loudspeaker.
use Rattle.idms.specs.declared.Settings.{Settings}
use Rattle.register.specs.declared.Opening.{Opening}
use Rattle.register.specs.declared.Reading.{Reading}
use Rattle.settings_target.specs.TargetLateness.{lateness_asked, number_answered, late_answered}
use Rattle.prunepocket.specs.declared.loudspeaker.LatenessAnswered.{LatenessAnswered}

-- 0 and the lateness, or a refusal's number and 0
abbrev pub lateness_answered : Opening → Settings → Reading → LatenessAnswered
lateness_answered o s at =
    record { number = number_answered (lateness_asked o s at); lateness = late_answered (lateness_asked o s at) }
