-- Document 02, E9, on a table: whether a settings packet suits its members, over what the public calls answer (theorems:
-- proofs/SettingsCheck.antt).
--
-- To be believed besides: of `idms` `Settings`; of `times` `settings_delay`; of `register` the records, SettingsPromise,
-- with what Choosing and Promise have for it, of Letter `Line`, `NoneOf` and `Means`, and of SettingsCheck
-- `settings_lateness` and `target_settings`, the rest of it being held to SettingsPromise; of History `Reached`, with what
-- its head names for it. `chosen_of` and `settings_checked` stand for what `Table::choose` and `Table::check_settings`
-- answer.
use Rattle.std.specs.Prelude.{ℕ, Bool, true, cond, List, Result, Ok, Err, ◌≡◌}
use Rattle.refusals.specs.declared.RefusalNumber.{RefusalNumber}
use Rattle.idms.specs.declared.Settings.{Settings}
use Rattle.register.specs.declared.Reading.{Reading}
use Rattle.register.specs.declared.Target.{Target}
use Rattle.register.specs.declared.Opening.{Opening}
use Rattle.register.specs.Register.{Call}
use Rattle.register.specs.Tallies.{Members, records_of}
use Rattle.register.specs.Choosing.{is_arrival}
use Rattle.register.specs.SettingsCheck.{verdict, target_settings}
use Rattle.register.specs.SettingsPromise.{VerdictMeans}
use Rattle.choosing.specs.Marked.{marked_at}
use Rattle.table.specs.declared.Table.{Table}
use Rattle.table.specs.declared.SettingsChecked.{SettingsChecked}
use Rattle.table.specs.Members.{opening_of, records_in}
use Rattle.table.specs.Choose.{chosen_of}
use Rattle.table.specs.History.{Reached}

-- the verdict for a table's group, media source and rate, and the records at the places held: no tally is looked at
unfoldable pub verdict_on : Table → Settings → Reading → (slack : ℕ) → Result Bool RefusalNumber
verdict_on t s at slack = verdict (opening_of t) at (marked_at t.held (records_in t)) s slack

-- checking leaves the table as it was
abbrev pub settings_checked : Table → Settings → Reading → (slack : ℕ) → SettingsChecked
settings_checked t s at slack = record { verdict = verdict_on t s at slack; table = t }

-- ---- tables that demand 3's calls can leave

-- the verdict is that on the register's rows, and means what the request says of it; the table is handed back as it was
abbrev pub EverySettings : Type 0
EverySettings =
    (o : Opening) (calls : List Call) (t : Table) (members : Members) → Reached o calls t members →
    (s : Settings) (at : Reading) (slack : ℕ) →
    (settings_checked t s at slack ≡ record { verdict = verdict o at (records_of members) s slack; table = t })
    × VerdictMeans o at (records_of members) s slack (settings_checked t s at slack).verdict

-- our own choice, read as the settings packet of any sender: yes with slack 0 in presentation mode, and 17 in arrival
-- mode, where its presented time is 0
abbrev pub EveryOwnChoice : Type 0
EveryOwnChoice =
    (o : Opening) (calls : List Call) (t : Table) (members : Members) → Reached o calls t members →
    (at : Reading) (x : Target) → (chosen_of t at).choice ≡ Ok x → (sender : ℕ) →
    (settings_checked t (target_settings sender x) at 0).verdict
    ≡ cond (is_arrival o at (records_of members)) (Err RefusalNumber.BadlyPresented) (Ok true)
