-- The intake: a report or a farewell is taken out of an item, and is a call under its origin and reading. Other items
-- are passed by.
use Rattle.idms.specs.declared.Item.{Item}
use Rattle.idms.specs.declared.Report.{Report}
use Rattle.idms.specs.Rows.{flag}
use Rattle.origin.specs.declared.Origin.{Origin}
use Rattle.register.specs.declared.Record.{Record}
use Rattle.register.specs.declared.Reading.{Reading}
use Rattle.register.specs.Register.{Call}
use Rattle.table.specs.declared.Table.{Table}
use Rattle.std.specs.Prelude.{Some, None}
use Rattle.table.specs.declared.Taken.{Taken}
use Rattle.table.specs.Calls.{answered}

-- a report's source number is the XR sender's SSRC
abbrev pub record_of : Report → Origin → Record
record_of r origin =
    record {
      source = r.sender;
      origin = origin;
      report = record {
        received = r.received;
        group = r.group;
        media = r.media;
        rtp = r.rtp;
        presented = r.presented;
        payload_type = r.payload_type;
        p = flag r.p;
      };
    }

-- what a call answers, as an item's outcome
abbrev pub call_taken : Table → Call → Taken
call_taken t call = record { outcome = Some (answered t call).number; table = (answered t call).table }

unfoldable pub taken : Table → Item → Origin → Reading → Taken
taken t (Item.Report r) origin at = call_taken t (Call.report (record_of r origin) at)
taken t (Item.Farewell source) origin at = call_taken t (Call.farewell source origin)
taken t (Item.Settings s) origin at = record { outcome = None; table = t }
