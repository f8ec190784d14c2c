-- Document 02, E8: order of arrival must not matter, over what the public calls answer and show (theorems:
-- proofs/ArrivalOrder.antt).
--
-- To be believed besides: of `register` the records, `Opening` and `Call`, and ArrivalOrder; of History `Reached`, with
-- what its head names for it, `answers_from`, `table_from` and `Shows`. `opened`, `answered`, `chosen_of`, `member_count`
-- and `place_at` stand for what `Table::open`, `report`, `farewell`, `sweep`, `choose`, `count_members` and `member_at`
-- answer. `permuted` of `SameMembers` looks into the table for the proofs above; the fields behind it say the same of
-- the public calls, which show no number at two places.
use mathlib.Core.List.{List, [], ◌∷◌, ◌++◌, Permᴰ}
use Rattle.std.specs.Prelude.{◌↔◌, ◌≡◌}
use Rattle.register.specs.declared.Record.{Record}
use Rattle.register.specs.declared.Member.{Member}
use Rattle.register.specs.declared.Reading.{Reading}
use Rattle.register.specs.declared.Opening.{Opening}
use Rattle.register.specs.Register.{Call}
use Rattle.register.specs.Tallies.{Members}
use Rattle.register.specs.ArrivalOrder.{AllAccepted, AllFromDifferentSources}
use Rattle.table.specs.declared.Table.{Table}
use Rattle.table.specs.Members.{members_of, member_count}
use Rattle.table.specs.Choose.{chosen_of}
use Rattle.table.specs.History.{answers_from, table_from, Shows, Reached}

-- ---- tables that differ in places alone

-- the same members, each with its number, origin, report and tally, at whatever places
pub record SameMembers (t u : Table) : Type 0 where
  pub permuted : Permᴰ (members_of t) (members_of u)
  -- as the public calls show them: as many, and whoever is shown at some place of the one is at some place of the other
  pub count : member_count t ≡ member_count u
  pub shown : (m : Member) → Shows t m ↔ Shows u m

-- after the same further calls: all of these had the same answers, the members are the same with the same reports and
-- tallies, and every choice at one reading agrees
pub record AlikeAfter (t u : Table) (further : List Call) : Type 0 where
  pub answers : answers_from t further ≡ answers_from u further
  pub members : SameMembers (table_from t further) (table_from u further)
  pub choices :
      (at : Reading) → (chosen_of (table_from t further) at).choice ≡ (chosen_of (table_from u further) at).choice

-- they differ in places alone, and go on so: at once, which is after no further call, and after any
abbrev pub AlikeButPlaces : Table → Table → Type 0
AlikeButPlaces t u = (further : List Call) → AlikeAfter t u further

-- ---- the order of arrival

-- what is said of calls that were accepted one after the other, first those of the one list and then those of the
-- other: taking the second before the first accepts all of them, and leaves a table that differs in places alone
pub record InEitherOrder (t : Table) (first second : List Call) : Type 0 where
  pub accepted : AllAccepted (answers_from t (second ++ first))
  pub alike : AlikeButPlaces (table_from t (first ++ second)) (table_from t (second ++ first))

-- the request: for any table that demand 3's calls can leave, two reports from different source numbers, each with its
-- own origin, which is in its record, and its own reading, that are both accepted one after the other, may come in the
-- other order. Nothing else is asked of them or of the further calls.
abbrev pub EveryTwoReports : Type 0
EveryTwoReports =
    (o : Opening) (calls : List Call) (t : Table) (members : Members) → Reached o calls t members →
    (x y : Record) (at then : Reading) →
    (x.source ≡ y.source → ⊥) →
    AllAccepted (answers_from t (Call.report x at ∷ Call.report y then ∷ [])) →
    InEitherOrder t (Call.report x at ∷ []) (Call.report y then ∷ [])

-- the same of reports in two lists, as bursts and datagrams bring them: no source number is in both
abbrev pub EveryTwoLists : Type 0
EveryTwoLists =
    (o : Opening) (calls : List Call) (t : Table) (members : Members) → Reached o calls t members →
    (first second : List Call) → AllFromDifferentSources first second →
    AllAccepted (answers_from t (first ++ second)) → InEitherOrder t first second

-- ---- calls that bring whole lists

-- what such a call gives on a table: what its caller sees, and the table that it hands back
pub record CallResult (A : Type 0) : Type 0 where
  pub seen : A
  pub table : Table

-- the one and then the other, or the other way round: each shows its caller the same, and the tables that are left
-- differ in places alone
pub record ResultsInEitherOrder
    {A B : Type 0} (t : Table) (one : Table → CallResult A) (other : Table → CallResult B) : Type 0
  where
    pub of_one : (one t).seen ≡ (one (other t).table).seen
    pub of_other : (other (one t).table).seen ≡ (other t).seen
    pub alike : AlikeButPlaces (other (one t).table).table (one (other t).table).table
