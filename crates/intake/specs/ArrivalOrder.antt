-- Document 02, E8, of whole datagrams: two of them may arrive in either order (theorem: proofs/ArrivalOrder.antt).
--
-- To be believed besides: of `table` ArrivalOrder, with what its head names; `datagram_calls` (Reaching), with what
-- that head names. `datagram_answered` and `answers_after` stand for what `take_datagram` answers and what it leaves in
-- the lent list.
use Rattle.std.specs.Prelude.{ℕ, Bool, List, ◌++◌}
use Rattle.origin.specs.declared.Origin.{Origin}
use Rattle.register.specs.declared.Reading.{Reading}
use Rattle.register.specs.declared.Opening.{Opening}
use Rattle.register.specs.Register.{Call}
use Rattle.register.specs.Tallies.{Members}
use Rattle.register.specs.ArrivalOrder.{AllAccepted, AllFromDifferentSources}
use Rattle.table.specs.declared.Table.{Table}
use Rattle.table.specs.History.{answers_from, Reached}
use Rattle.table.specs.ArrivalOrder.{CallResult, ResultsInEitherOrder}
use Rattle.intake.specs.Datagrams.{datagram_answered, answers_after}
use Rattle.intake.specs.Reaching.{datagram_calls}

-- a datagram as it comes in: its own reading and origin, its bytes, whether reduced size was agreed, and the list lent
-- for its numbers
pub record Incoming : Type 0 where
  pub at : Reading
  pub origin : Origin
  pub datagram : List ℕ
  pub reduced : Bool
  pub lent : List ℕ

abbrev pub incoming_calls : Incoming → List Call
incoming_calls a = datagram_calls a.datagram a.origin a.at

-- number, place, count and the lent list afterwards, and the table
abbrev pub datagram_result : Incoming → Table → CallResult (ℕ × ℕ × ℕ × List ℕ)
datagram_result a t =
    let result = datagram_answered t a.reduced a.datagram a.origin a.at a.lent in
    let list = answers_after t a.reduced a.datagram a.origin a.at a.lent in
    record { seen = (result.number, result.place, result.count, list); table = result.table }

-- from every reached table, of any two datagrams whose calls are reports, no source number in both, and all accepted
-- one after the other. A datagram that is refused, or whose list is too short, makes no call, and then less would do.
abbrev pub EveryTwoDatagrams : Type 0
EveryTwoDatagrams =
    (o : Opening) (calls : List Call) (t : Table) (members : Members) → Reached o calls t members →
    (a b : Incoming) → AllFromDifferentSources (incoming_calls a) (incoming_calls b) →
    AllAccepted (answers_from t (incoming_calls a ++ incoming_calls b)) →
    ResultsInEitherOrder t (datagram_result a) (datagram_result b)
