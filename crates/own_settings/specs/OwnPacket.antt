-- Document 02, E9: "our own choice from that table and reading passes with slack 0 in presentation mode", through the
-- writer and the reader's item (theorem: proofs/OwnPacket.antt).
--
-- To be believed besides: what table SettingsCheck names, of which `settings_checked` and `chosen_of` stand for what
-- `Table::check_settings` and `Table::choose` answer; of `writer` `ReadBack`, with what RoundTrip has for it. `written`
-- and `buffer` stand for what `writer::write_settings` answers and leaves in the buffer.
use Rattle.std.specs.Prelude.{ℕ, ◌≤◌, cond, List, ◌≡◌, length, take}
use Rattle.std.specs.Prelude.{Err, true}
use Rattle.refusals.specs.declared.RefusalNumber.{RefusalNumber}
use Rattle.std.specs.Prelude.{Ok}
use Rattle.buffer.specs.Buffer.{written, buffer}
use Rattle.idms.specs.declared.Settings.{Settings}
use Rattle.idms.specs.declared.Item.{Item}
use Rattle.writer.specs.Messages.{settings_message}
use Rattle.writer.specs.RoundTrip.{ReadBack, SettingsFit}
use Rattle.register.specs.declared.Reading.{Reading}
use Rattle.register.specs.declared.Target.{Target}
use Rattle.register.specs.declared.Opening.{Opening}
use Rattle.register.specs.Register.{Rows, Call}
use Rattle.register.specs.Tallies.{Members, records_of}
use Rattle.register.specs.Choosing.{is_arrival}
use Rattle.register.specs.SettingsCheck.{target_settings}
use Rattle.table.specs.declared.Table.{Table}
use Rattle.table.specs.Choose.{chosen_of}
use Rattle.table.specs.History.{Reached}
use Rattle.table.specs.SettingsCheck.{settings_checked}

-- a target is written from a sender, the 36 bytes are read back as one item, and that item is checked on the table: yes
-- with slack 0 in presentation mode, and 17 in arrival mode
pub record PassesOwn (o : Opening) (rows : Rows) (t : Table) (at : Reading) (s : Settings) (buf : List ℕ) : Type 0
  where
    pub wrote : written (settings_message s) buf ≡ Ok 36
    pub item : Settings
    pub read : ReadBack (take 36 (buffer (settings_message s) buf)) 0 (Item.Settings item)
    pub checked :
        (settings_checked t item at 0).verdict
        ≡ cond (is_arrival o at rows) (Err RefusalNumber.BadlyPresented) (Ok true)

-- for any table that demand 3's calls can leave, every reading at which there is a target, every sender whose packet
-- has fields in the ranges of their types, and every buffer that is long enough
abbrev pub EveryOwnPacket : Type 0
EveryOwnPacket =
    (o : Opening) (calls : List Call) (t : Table) (members : Members) → Reached o calls t members →
    (at : Reading) (x : Target) → (chosen_of t at).choice ≡ Ok x →
    (sender : ℕ) → SettingsFit (target_settings sender x) → (buf : List ℕ) → 36 ≤ length buf →
    PassesOwn o (records_of members) t at (target_settings sender x) buf
