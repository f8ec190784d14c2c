-- Choosing on a table.
use Rattle.std.specs.Prelude.{Result}
use Rattle.refusals.specs.declared.RefusalNumber.{RefusalNumber}
use Rattle.register.specs.declared.Reading.{Reading}
use Rattle.register.specs.declared.Target.{Target}
use Rattle.choosing.specs.Choose.{choice_among}
use Rattle.table.specs.declared.Table.{Table}
use Rattle.table.specs.declared.Chosen.{Chosen}
use Rattle.table.specs.Members.{records_in}

-- the choice at a table's rate, of the members at the places held: no tally is looked at
unfoldable pub choice_of : Table → Reading → Result Target RefusalNumber
choice_of t at = choice_among t.opening.rate at t.held (records_in t)

-- choosing leaves the table as it was
abbrev pub chosen_of : Table → Reading → Chosen
chosen_of t at = record { choice = choice_of t at; table = t }
