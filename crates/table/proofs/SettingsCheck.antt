-- A settings packet on a table (document 02, E9): the table's rows are the register's in some order, which the verdict
-- does not look at, so that what is proved of the register's verdict holds of the table's.
use Prim.Native.Nat.{ℕ}
use Rattle.std.specs.Prelude.{Result, Bool}
use Rattle.refusals.specs.declared.RefusalNumber.{RefusalNumber}
use mathlib.Core.Path.{◌≡◌, sym, ap, ◌∙◌}
use Rattle.idms.specs.declared.Settings.{Settings}
use Rattle.register.specs.declared.Reading.{Reading}
use Rattle.register.specs.declared.Opening.{Opening}
use Rattle.register.specs.Register.{Rows}
use Rattle.register.specs.Tallies.{records_of}
use Rattle.register.specs.SettingsCheck.{verdict, target_settings}
use Rattle.register.proofs.SettingsCheck.{verdict-permuted, verdict_means, own-verdict}
use Rattle.choosing.specs.Marked.{marked_at}
use Rattle.table.specs.declared.Table.{Table}
use Rattle.table.specs.Members.{records_in}
use Rattle.table.specs.SettingsCheck.{verdict_on, EverySettings, EveryOwnChoice}
use Rattle.table.proofs.Agreement.Calls.{Holds}
use Rattle.table.proofs.Agreement.Theorem.{chosen-same, reached_holds, reached_sound}

verdict-same :
    (o : Opening) (t : Table) (rows : Rows) → Holds o t rows → (s : Settings) (at : Reading) (slack : ℕ) →
    verdict_on t s at slack ≡ verdict o at rows s slack
unfolding verdict_on
verdict-same o t rows h s at slack =
    ap (λ (p : Opening). verdict p at (marked_at t.held (records_in t)) s slack) h.opening
    ∙ verdict-permuted o at s slack h.same

pub every_settings : EverySettings
every_settings o calls t ms reached s at slack =
    let same : _ = verdict-same o t (records_of ms) (reached_holds o calls t ms reached) s at slack in (
      ap (λ (v : Result Bool RefusalNumber). record { verdict = v; table = t }) same,
      rw same (verdict_means o at (records_of ms) s slack),
    )

pub every_own_choice : EveryOwnChoice
every_own_choice o calls t ms reached at x e sender =
    let holds : Holds o t (records_of ms) = reached_holds o calls t ms reached in
    verdict-same o t (records_of ms) holds (target_settings sender x) at 0
    ∙ own-verdict o at (records_of ms) (reached_sound o calls t ms reached) x sender
    (sym (chosen-same o t (records_of ms) holds at) ∙ e)
