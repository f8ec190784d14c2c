-- What is read back is what was written, and its group is the opening's, which 12 does not refuse.
use mathlib.Core.Logic.{inl, inr}
use mathlib.Core.Path.{◌≡◌, sym, ◌∙◌}
use Rattle.register.specs.Tallies.{records_of}
use Rattle.register.specs.SettingsCheck.{target_settings}
use Rattle.register.proofs.SettingsCheck.{target-group}
use Rattle.writer.proofs.WriteRead.{settings_write_read}
use Rattle.table.proofs.Agreement.Theorem.{chosen-same, reached_holds, reached_sound}
use Rattle.table.proofs.SettingsCheck.{every_own_choice}
use Rattle.own_settings.specs.OwnPacket.{EveryOwnPacket}

pub every_own_packet : EveryOwnPacket
every_own_packet o calls t ms reached at x e sender fits buf long =
    let group : x.group ≡ o.group =
    target-group o at (records_of ms) (reached_sound o calls t ms reached) x
    (sym (chosen-same o t (records_of ms) (reached_holds o calls t ms reached) at) ∙ e) in
    let both : _ =
    settings_write_read (target_settings sender x) buf fits
    (λ last. reached.taken (inl (inr (sym group ∙ last))))
    long in
    record {
      wrote = both.0;
      item = target_settings sender x;
      read = both.1;
      checked = every_own_choice o calls t ms reached at x e sender;
    }
