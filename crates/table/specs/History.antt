-- Demand 3 as a statement: any list of calls from the table that opening returned, each call given the table that the
-- one before handed back.
--
-- To be believed, besides this file:
--   of `refusals` Refusals: the numbers;
--   of `times` Times: ages, delay, expanded presentation, fresh;
--   of `origin` Origins, for the plain register alone;
--   of `register` the records (src/lib.rt); Letter: members, tallies, twins and what each answer means; Choosing and
--   Promise: what is chosen and what is promised of it; of Register `Opening`, `Call` and what Choosing and Promise
--   use; of Tallies `Members` and `records_of`. The rest of Register is the papers' plain register, believed for the
--   sentence that answers and members are its own; the rest of Tallies is held to Letter.
-- No belief needs what the contracts tie to code: `opened`, `answered`, `chosen_of`, `place_at` and `member_count` stand
-- here as what `Table::open`, `report`, `farewell`, `sweep`, `choose`, `member_at` and `count_members` answer, whatever
-- that is; nor what lies below them (Members, Calls and Choose here, all of `choosing` and `places`). `opening` and
-- `same` of `Agree` look into the table for the proofs above; the fields behind them say the same of the public
-- calls.
use Rattle.std.specs.Prelude.{ℕ, ◌<◌, ◌≡◌, length}
use mathlib.Core.List.{List, [], ◌∷◌, Memᴰ, Permᴰ}
use Rattle.register.specs.declared.Record.{Record}
use Rattle.register.specs.declared.Member.{Member}
use Rattle.register.specs.declared.Reading.{Reading}
use Rattle.register.specs.declared.Opening.{Opening}
use Rattle.register.specs.Register.{Call, answers, after_all}
use Rattle.register.specs.Tallies.{Members, records_of, members_after_all}
use Rattle.register.specs.Choosing.{choice}
use Rattle.register.specs.Promise.{Unique, AllInRange, Promised}
use Rattle.register.specs.Letter.{History, history, made_in, BadOpening, opening_lines, Means, Letter}
use Rattle.table.specs.declared.Table.{Table}
use Rattle.table.specs.Members.{opening_of, members_of, member_count, place_at}
use Rattle.table.specs.Calls.{opened, answered}
use Rattle.table.specs.Choose.{chosen_of}

-- every answer of a list of calls
unfoldable pub answers_from : Table → List Call → List ℕ
answers_from t [] = []
answers_from t (call ∷ calls) = (answered t call).number ∷ answers_from (answered t call).table calls

-- the table that a list of calls leaves
unfoldable pub table_from : Table → List Call → Table
table_from t [] = t
table_from t (call ∷ calls) = table_from (answered t call).table calls

-- a table shows m: it is the member at one of the 64 places
abbrev pub Shows : Table → Member → Type 0
Shows t m = (place : ℕ) × (place < 64) × (place_at t place ≡ record { held = 1; member = m })

-- m is shown after the calls of a history
abbrev pub IsShown : Opening → History → Member → Type 0
IsShown o h m = Shows (table_from (opened o).table (made_in h)) m

-- what opening answers, whatever it is asked for: 12 exactly where 12 applies, else 0
abbrev pub OpeningMeans : Opening → Type 0
OpeningMeans o = Means (opening_lines o) (opened o).number

-- this table and these members of the register, each a row and its tally, are what an opening to which 12 does not
-- apply and this list of calls leave
pub record Reached (o : Opening) (calls : List Call) (t : Table) (members : Members) : Type 0 where
  pub taken : BadOpening o → ⊥
  pub ranges : AllInRange calls
  pub table_is : t ≡ table_from (opened o).table calls
  pub members_are : members ≡ members_after_all o [] calls

-- the table's members and the register's agree one to one, in number, origin, every field of the report and tally, each
-- number once; group, media source and rate are the opening's
pub record Agree (o : Opening) (t : Table) (members : Members) : Type 0 where
  pub opening : opening_of t ≡ o
  pub same : Permᴰ (members_of t) members
  pub unique : Unique (records_of members)
  pub own :
      (row : Record) → Memᴰ row (records_of members) →
      (row.report.group ≡ o.group) × (row.report.media ≡ o.media)
  -- as the public calls show them: the count is that of the register's members, a place that is not shown free shows
  -- one, each is shown, and no number at two places
  pub count : member_count t ≡ length members
  pub places :
      (place : ℕ) → ((place_at t place).held ≡ 0 → ⊥) →
      ((place_at t place).held ≡ 1) × Memᴰ (place_at t place).member members
  pub placed : (m : Member) → Memᴰ m members → Shows t m
  pub once :
      (p q : ℕ) → (place_at t p).held ≡ 1 → (place_at t q).held ≡ 1 →
      (place_at t p).member.«record».source ≡ (place_at t q).member.«record».source → p ≡ q

-- what demand 3 says of a table, the register's members and the calls that left them
pub record Demand3 (o : Opening) (calls : List Call) (t : Table) (members : Members) : Type 0 where
  -- opening is taken, every answer is the plain register's, and so are the members' rows
  pub opens : (opened o).number ≡ 0
  pub numbers : answers_from (opened o).table calls ≡ answers o [] calls
  pub rows : records_of members ≡ after_all o [] calls
  pub agree : Agree o t members
  -- every call of the list has its answer
  pub whole : made_in (history calls (answers_from (opened o).table calls)) ≡ calls
  -- the letter's sentences on members, twins and refusals, and the tallies of E5: of the table's own answers, and of
  -- the members shown by the tables handed back, of which t is the last
  pub letter : Letter o (history calls (answers_from (opened o).table calls)) (IsShown o)
  -- choosing gives the register's choice at any reading, and leaves the table as it was
  pub chosen : (at : Reading) → chosen_of t at ≡ record { choice = choice o at (records_of members); table = t }
  -- what the customer is promised of that choice
  pub promised : (at : Reading) → Promised o at (records_of members) (chosen_of t at).choice

-- demand 3: whatever the opening, the list of calls, and the table and members that they leave
abbrev pub EveryList : Type 0
EveryList =
    (o : Opening) (calls : List Call) (t : Table) (members : Members) → Reached o calls t members →
    Demand3 o calls t members
