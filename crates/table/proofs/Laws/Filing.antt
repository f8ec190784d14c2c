-- A filing has its call's number and one of the 64 places, and the table with that stored is the one that the call
-- leaves.
use Prim.Native.Nat.{ℕ, ◌%◌, ◌≤◌, ◌<◌}
use mathlib.Core.Bool.{Bool, true, false, cond}
use mathlib.Core.Path.{◌≡◌, refl, sym, ap, ◌∙◌}
use lib.Dec.{ltb, eqb}
use lib.ListN.{length, get_or}
use native.Mathlib.Omega.{arith}
use borrow.Author.Tests.{eqb-true, eqb-false, ltb-true, ltb-false, lt-ltb, le-ltb}
use Rattle.origin.specs.declared.Origin.{Origin}
use Rattle.refusals.specs.Refusals.{other_origin, no_member}
use Rattle.places.specs.Places.{lowest_free, without_place}
use Rattle.places.proofs.Laws.Free.{lowest_free_within}
use Rattle.register.specs.declared.Record.{Record}
use Rattle.register.specs.declared.Member.{Member}
use Rattle.register.specs.declared.Reading.{Reading}
use Rattle.register.specs.declared.Opening.{Opening}
use Rattle.register.specs.Register.{Call, farewell_checks}
use Rattle.register.specs.Tallies.{Members, raised}
use Rattle.register.proofs.Stands.{accepted_room}
use Rattle.choosing.specs.Marked.{nobody}
use Rattle.choosing.proofs.Laws.Marked.{row_at}
use Rattle.table.specs.declared.Table.{Table}
use Rattle.table.specs.declared.Answered.{Answered}
use Rattle.table.specs.declared.filing.Filing.{Filing}
use Rattle.table.specs.Members.{opening_of, place_in}
use Rattle.table.specs.Calls.{is_member, number_of, with_held, answered}
use Rattle.table.specs.Filing.{has_other_origin, known_number, known_filing, is_full}
use Rattle.table.specs.Filing.{new_number, new_filing, report_number_at, report_filing, farewell_number_at}
use Rattle.table.specs.Filing.{farewell_filing, member_there, filing_of, with_filing}
use Rattle.table.proofs.Laws.Members.{set_same}
use Rattle.table.proofs.Laws.Search.{place_within}
use Rattle.table.proofs.Laws.Cases.{call_refused, call_accepted, report_elsewhere, report_number_there}
use Rattle.table.proofs.Laws.Cases.{report-tallied, filed_again, filed_anew, farewell_stranger}
use Rattle.table.proofs.Laws.Cases.{elsewhere_there, is_other, farewell_elsewhere, farewell-taken}

-- ---- a filing has its call's number, and a report's one of the 64 places: accepted, a new member finds room

pub filing_number :
    (held place : ℕ) (there : Member) (x : Record) (number : ℕ) →
    (report_filing held place there x number).number ≡ number
filing_number held place there x number = go (ltb place 64) refl (eqb number 0) refl
  where
    go :
        (a : Bool) → ltb place 64 ≡ a → (b : Bool) → eqb number 0 ≡ b →
        (report_filing held place there x number).number ≡ number
    go true a b f = rw a refl
    go false a true f = rw (a, f) (sym (eqb-true number 0 f))
    go false a false f = rw (a, f) refl

pub farewell_filing_number :
    (held place : ℕ) (there : Member) (number : ℕ) → (farewell_filing held place there number).number ≡ number
farewell_filing_number held place there number = go (ltb place 64) refl (eqb number 0) refl
  where
    go :
        (a : Bool) → ltb place 64 ≡ a → (b : Bool) → eqb number 0 ≡ b →
        (farewell_filing held place there number).number ≡ number
    go false a b f = rw a refl
    go true a true f = rw (a, f) (sym (eqb-true number 0 f))
    go true a false f = rw (a, f) refl

pub filing_within :
    (o : Opening) (held place : ℕ) (there : Member) (x : Record) (at : Reading) (number : ℕ) →
    number ≡ report_number_at o held place there x at → (report_filing held place there x number).place < 64
filing_within o held place there x at number e = go (ltb place 64) refl (eqb number 0) refl
  where
    go :
        (a : Bool) → ltb place 64 ≡ a → (b : Bool) → eqb number 0 ≡ b →
        (report_filing held place there x number).place < 64
    go true a b f = rw a (ltb-true place 64 a)
    go false a false f = rw (a, f) (omega arith)
    go false a true f =
        let none : new_number o held x at ≡ 0 = sym (rw a at e) ∙ eqb-true number 0 f in
        let room : eqb (lowest_free 64 held) 64 ≡ false = accepted_room o x at false (is_full held) none in
        rw (a, f) (omega (arith, eqb-false (lowest_free 64 held) 64 room, lowest_free_within 64 held))

-- ---- stored

-- a number, and the table with other members
abbrev kept : Table → ℕ → Members → Answered
kept t number ms =
    record {
      number = number;
      table = record { opening = t.opening; held = t.held; members = ms };
    }

module _ (t : Table) (x : Record) (at : Reading) where
  abbrev stores : Filing → Type 0
  stores f = ◌≡◌ {A = Answered} (record { number = f.number; table = with_filing t f }) (answered t (Call.report x at))

  abbrev place : ℕ
  place = place_in t x.source

  abbrev there : Member
  there = get_or t.members place nobody

  -- a number's own place
  module _ (known : place < 64) where
    abbrev Known : ℕ
    Known = known_number (opening_of t) there x at

    known_number_lem : Known ≡ number_of t (Call.report x at)
    known_number_lem =
        let below : ltb place 64 ≡ true = lt-ltb place 64 known in
        report_number_there t x at place (has_other_origin there x.origin) false _ refl
        (rw (below, row_at t.members place) refl) (rw below refl) refl

    stored_known :
        (tallied accepted : Bool) → eqb Known other_origin ≡ tallied → eqb Known 0 ≡ accepted →
        stores (known_filing t.held place there x Known)
    stored_known true accepted e f =
        let given : Known ≡ other_origin = eqb-true Known other_origin e in
        rw e (report-tallied t x at place Known _ known_number_lem given refl refl)
    stored_known false true e f =
        let none : Known ≡ 0 = eqb-true Known 0 f in
        rw (e, f, none)
        (call_accepted t _ (Call.report x at) (sym known_number_lem ∙ none) (filed_again t x place refl _ known refl))
    stored_known false false e f =
        rw (e, f)
        (ap (kept t Known) (set_same t.members place nobody)
        ∙ call_refused t (Call.report x at) Known known_number_lem (eqb-false Known 0 f) (eqb-false Known other_origin e))

  -- no member has the number
  module _ (new : 64 ≤ place) where
    abbrev New : ℕ
    New = new_number (opening_of t) t.held x at

    new-number : New ≡ number_of t (Call.report x at)
    new-number =
        let beyond : ltb place 64 ≡ false = le-ltb place 64 new in
        report_number_there t x at place false (is_full t.held) _ refl (rw beyond refl) (rw beyond refl) refl

    not-tallied : New ≡ other_origin → ⊥
    not-tallied e =
        let wrong : ◌≡◌ {A = ℕ} 0 1 =
        ap (λ (b : Bool). cond b 1 0) (report_elsewhere (opening_of t) x at false (is_full t.held) e) in
        omega (arith, wrong)

    stored_new :
        (accepted : Bool) → eqb New 0 ≡ accepted →
        stores (new_filing t.held (get_or t.members 0 nobody) x New)
    stored_new true e =
        let none : New ≡ 0 = eqb-true New 0 e in
        rw e
        (call_accepted t _ (Call.report x at) (sym new-number ∙ none)
        (filed_anew t x place refl _ (lowest_free 64 t.held) _ new refl refl refl))
    stored_new false e =
        rw e
        (ap (kept t New) (set_same t.members 0 nobody)
        ∙ call_refused t (Call.report x at) New new-number (eqb-false New 0 e) not-tallied)

  pub filing_answers : (f : Filing) → f ≡ filing_of t x at → stores f
  unfolding filing_of
  filing_answers f e = go (is_member t x.source) refl
    where
      go : (b : Bool) → is_member t x.source ≡ b → stores f
      go true k =
          let g : f ≡ known_filing t.held place there x (known_number (opening_of t) there x at) = rw k at e in
          rw g (stored_known (ltb-true place 64 k) _ _ refl refl)
      go false k =
          let g : f ≡ new_filing t.held (get_or t.members 0 nobody) x (new_number (opening_of t) t.held x at) =
          rw k at e in
          rw g (stored_new (ltb-false place 64 k) _ refl)

-- ---- by a place that was searched for

module _
    (t : Table) (source place : ℕ) (there : Member) (long : length t.members ≡ 64) (e : place ≡ place_in t source)
    (m : there ≡ get_or t.members (place % 64) nobody) where
  -- no member has the number, and the first place was looked at
  first_there : 64 ≤ place → there ≡ get_or t.members 0 nobody
  first_there h =
      let first : place % 64 ≡ 0 = omega (arith, e, h, place_within t source long) in
      m ∙ ap (λ (k : ℕ). get_or t.members k nobody) first

  own_there : place < 64 → there ≡ get_or t.members place nobody
  own_there h =
      let own : place % 64 ≡ place = omega (arith, h) in
      m ∙ ap (λ (k : ℕ). get_or t.members k nobody) own

  is_there : there ≡ member_there t place
  is_there = go (ltb place 64) refl
    where
      go : (b : Bool) → ltb place 64 ≡ b → there ≡ member_there t place
      go true b = rw b (own_there (ltb-true place 64 b))
      go false b = rw b (first_there (ltb-false place 64 b))

  -- what a farewell does, once stored, is the call
  module _
      (origin : Origin) (number : ℕ) (f : Filing) (n : number ≡ farewell_number_at place there origin)
      (g : f ≡ farewell_filing t.held place there number) where
    abbrev Stored : Type 0
    Stored =
        ◌≡◌ {A = Answered} (record { number = number; table = with_filing t f })
        (answered t (Call.farewell source origin))

    without_member : 64 ≤ place → Stored × (f.place < 64)
    unfolding farewell_checks
    without_member h =
        let none : ltb place 64 ≡ false = le-ltb place 64 h in
        let is : number ≡ no_member = rw none at n in
        let does : f ≡ record { number = number; place = 0; held = t.held; member = there } = rw none at g in (
          rw (does, is, first_there h)
              (ap (kept t no_member) (set_same t.members 0 nobody)
              ∙ farewell_stranger t source place origin e h),
          rw does (omega arith),
        )

    module _ (h : place < 64) where
      below : ltb place 64 ≡ true
      below = lt-ltb place 64 h

      is_elsewhere_lem : has_other_origin there origin ≡ is_other t source place origin e
      is_elsewhere_lem =
          elsewhere_there t source place e origin _
          (ap (λ (mine : Member). has_other_origin mine origin) (own_there h)
          ∙ rw (below, row_at t.members place) refl)

      with_member_lem : (b : Bool) → has_other_origin there origin ≡ b → Stored × (f.place < 64)
      unfolding farewell_checks
      with_member_lem true o =
          let is : number ≡ other_origin = rw (below, o) at n in
          let tallied : Member = record { «record» = there.«record»; tally = raised there.tally } in
          let does : f ≡ record { number = other_origin; place = place; held = t.held; member = tallied } =
          rw (below, is) at g in (
            rw (does, is, own_there h)
                (farewell_elsewhere t source place origin e _ h (sym is_elsewhere_lem ∙ o) refl),
            rw does h,
          )
      with_member_lem false o =
          let is : number ≡ 0 = rw (below, o) at n in
          let word = without_place t.held place in
          let does : f ≡ record { number = 0; place = place; held = word; member = there } = rw (below, is) at g in (
            rw (does, is, own_there h)
                (ap (kept (with_held t word) 0) (set_same t.members place nobody)
                ∙ farewell-taken t source place origin e word h (sym is_elsewhere_lem ∙ o) refl),
            rw does h,
          )

    pub farewell_stored : Stored × (f.place < 64)
    farewell_stored = go (ltb place 64) refl
      where
        go : (b : Bool) → ltb place 64 ≡ b → Stored × (f.place < 64)
        go true b = with_member_lem (ltb-true place 64 b) (has_other_origin there origin) refl
        go false b = without_member (ltb-false place 64 b)

-- what a report does is the table's filing
module _
    (t : Table) (x : Record) (at : Reading) (place : ℕ) (there : Member) (number : ℕ) (f : Filing)
    (long : length t.members ≡ 64) (e : place ≡ place_in t x.source)
    (m : there ≡ get_or t.members (place % 64) nobody)
    (n : number ≡ report_number_at (opening_of t) t.held place there x at)
    (g : f ≡ report_filing t.held place there x number) where
  pub filing_searched : (f ≡ filing_of t x at) × (f.place < 64)
  unfolding filing_of
  filing_searched =
      let same : f.place ≡ (report_filing t.held place there x number).place = ap (λ (h : Filing). h.place) g in (
        g ∙ rw (n, is_there t x.source place there long e m, e) refl,
        omega (arith, same, filing_within (opening_of t) t.held place there x at number n),
      )
