-- Demand 3 of the calls that take in what was read, a whole datagram (`take_datagram`) or the item at an index
-- (`Table::intake`): from a reached table they hand back a reached one, and what they give are the register's answers.
-- To be believed besides: `calls_in` (Datagrams), `record_of` (table Intake), and what reading gives (datagram Datagram
-- with what it uses of `packet` and `packet_checks`, rtcp Answers).
use Rattle.std.specs.Prelude.{ℕ, ◌≤◌, ◌<◌, ◌≡◌, Bool, List, [], ◌∷◌, ◌++◌, length, drop}
use Rattle.std.specs.Prelude.{Some, None}
use Rattle.std.specs.Prelude.{Ok}
use Rattle.idms.specs.declared.Item.{Item}
use Rattle.idms.specs.declared.Report.{Report}
use Rattle.idms.specs.declared.Settings.{Settings}
use Rattle.origin.specs.declared.Origin.{Origin}
use Rattle.refusals.specs.declared.RefusalNumber.{RefusalNumber}
use Rattle.refusals.specs.Refusals.{short_buffer, refusal_number}
use Rattle.packet.specs.Checks.{passed, refused}
use Rattle.packet.specs.Bytes.{AreBytes}
use Rattle.datagram.specs.Datagram.{datagram_check, datagram_items}
use Rattle.rtcp.specs.Answers.{item_of}
use Rattle.register.specs.declared.Reading.{Reading}
use Rattle.register.specs.declared.Opening.{Opening}
use Rattle.register.specs.Register.{Call, answer, answers}
use Rattle.register.specs.Tallies.{Members, records_of, members_after, members_after_all}
use Rattle.table.specs.declared.Table.{Table}
use Rattle.table.specs.declared.Taken.{Taken}
use Rattle.table.specs.Intake.{record_of, taken}
use Rattle.table.specs.History.{Reached}
use Rattle.intake.specs.Datagrams.{calls_in, datagram_answered, answers_after}

-- ---- a datagram

-- one call for each report and each farewell in it, in the order of items
abbrev pub datagram_calls : List ℕ → Origin → Reading → List Call
datagram_calls d origin at = calls_in origin at (datagram_items d)

-- a table that calls reached; whether reduced size was agreed; a datagram with its origin and its reading; and the list
-- lent for the numbers
module _
    (o : Opening) (calls : List Call) (t : Table) (members : Members)
    (reduced : Bool) (d : List ℕ) (origin : Origin) (at : Reading) (lent : List ℕ) where
  -- the datagram's calls are made
  pub record AllMade : Type 0 where
    -- the table is reached by the calls before and then the datagram's
    pub reached :
        Reached o (calls ++ datagram_calls d origin at) (datagram_answered t reduced d origin at lent).table
        (members_after_all o members (datagram_calls d origin at))
    -- the register's answers to them, which are behind those to the calls before, are put into the list; behind them
    -- it is as it was
    pub numbers :
        answers_after t reduced d origin at lent
        ≡ drop (length calls) (answers o [] (calls ++ datagram_calls d origin at))
        ++ drop (length (datagram_calls d origin at)) lent
    -- there is no refusal
    pub number : (datagram_answered t reduced d origin at lent).number ≡ 0
    pub place : (datagram_answered t reduced d origin at lent).place ≡ 0
    -- how many calls were made
    pub count : (datagram_answered t reduced d origin at lent).count ≡ length (datagram_calls d origin at)

  -- no call is made, and the answer is this refusal
  pub record NoneMade (refusal at_byte : ℕ) : Type 0 where
    -- the table is reached by the calls before alone
    pub reached : Reached o calls (datagram_answered t reduced d origin at lent).table members
    -- the list is as it was
    pub numbers : answers_after t reduced d origin at lent ≡ lent
    pub number : (datagram_answered t reduced d origin at lent).number ≡ refusal
    pub place : (datagram_answered t reduced d origin at lent).place ≡ at_byte
    pub count : (datagram_answered t reduced d origin at lent).count ≡ 0

  -- what demand 3 says of every datagram: all of its calls are made, or none
  pub record DatagramReached : Type 0 where
    -- not refused, and the list is long enough
    pub made : datagram_check reduced d ≡ passed → length (datagram_calls d origin at) ≤ length lent → AllMade
    -- refused
    pub unread :
        (number : RefusalNumber) (place : ℕ) → datagram_check reduced d ≡ refused number place
        → NoneMade (refusal_number number) place
    -- the list is too short
    pub short :
        datagram_check reduced d ≡ passed → length lent < length (datagram_calls d origin at) → NoneMade short_buffer 0

-- from every reached table, of every datagram of bytes, whether or not reduced size was agreed
abbrev pub EveryDatagram : Type 0
EveryDatagram =
    (o : Opening) (calls : List Call) (t : Table) (members : Members) → Reached o calls t members →
    (reduced : Bool) (d : List ℕ) → AreBytes d → (origin : Origin) (at : Reading) (lent : List ℕ) →
    DatagramReached o calls t members reduced d origin at lent

-- ---- the item at an index

-- a table that calls reached, and what the intake makes of an item
module _ (o : Opening) (calls : List Call) (t : Table) (members : Members) where
  -- one call is made
  pub record OneMade (call : Call) (result : Taken) : Type 0 where
    -- the table is reached by the calls before and this one
    pub reached : Reached o (calls ++ call ∷ []) result.table (members_after o members call)
    -- the outcome is the register's answer to it
    pub outcome : result.outcome ≡ Some (answer o (records_of members) call)

  -- what demand 3 says of the item that reading gives at an index: a report or a farewell is a call, and settings leave
  -- the table as it was
  pub record ItemReached (reduced : Bool) (d : List ℕ) (index : ℕ) (origin : Origin) (at : Reading) : Type 0 where
    pub report :
        (place : ℕ) (r : Report) → item_of reduced d index ≡ Ok (record { place = place; item = Item.Report r })
        → OneMade (Call.report (record_of r origin) at) (taken t (Item.Report r) origin at)
    pub farewell :
        (place source : ℕ)
        → item_of reduced d index ≡ Ok (record { place = place; item = Item.Farewell source })
        → OneMade (Call.farewell source origin) (taken t (Item.Farewell source) origin at)
    pub settings :
        (place : ℕ) (s : Settings)
        → item_of reduced d index ≡ Ok (record { place = place; item = Item.Settings s })
        → taken t (Item.Settings s) origin at ≡ record { outcome = None; table = t }

-- from every reached table, of every datagram of bytes, whether or not reduced size was agreed, at every index
abbrev pub EveryItem : Type 0
EveryItem =
    (o : Opening) (calls : List Call) (t : Table) (members : Members) → Reached o calls t members →
    (reduced : Bool) (d : List ℕ) → AreBytes d → (index : ℕ) (origin : Origin) (at : Reading) →
    ItemReached o calls t members reduced d index origin at
