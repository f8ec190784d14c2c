-- What C is answered of a settings packet means for a loudspeaker what settings_target TargetPromise says (for document
-- 02, E10; theorem: proofs/Theorems.antt).
--
-- To be believed besides: `TargetMeans`, with what TargetPromise names. Nothing of Loudspeaker: `lateness_answered`
-- stands for what `prunepocket_target_lateness` answers.
use Rattle.idms.specs.declared.Settings.{Settings}
use Rattle.register.specs.declared.Opening.{Opening}
use Rattle.register.specs.declared.Reading.{Reading}
use Rattle.settings_target.specs.TargetPromise.{TargetMeans}
use Rattle.prunepocket.specs.Loudspeaker.{lateness_answered}

abbrev pub EveryLateness : Type 0
EveryLateness =
    (o : Opening) (s : Settings) (at : Reading) →
    TargetMeans o s at (lateness_answered o s at).number (lateness_answered o s at).lateness
