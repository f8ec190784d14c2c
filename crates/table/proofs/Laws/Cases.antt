-- What a call answers, from the tests on its place.
use Prim.Native.Nat.{ℕ, ◌≤◌, ◌<◌}
use mathlib.Core.Bool.{Bool, true, false, cond, ◌&&◌}
use mathlib.Core.Path.{◌≡◌, refl, sym, ap, ◌∙◌}
use lib.Dec.{eqb}
use lib.ListN.{set}
use native.Mathlib.Omega.{arith}
use borrow.Author.Tests.{eqb-false, ne_eqb, lt-ltb, le-ltb}
use Rattle.refusals.specs.Refusals.{other_stream, other_origin, received_far, rtp_aged, badly_presented}
use Rattle.refusals.specs.Refusals.{no_room, no_member}
use Rattle.times.specs.Times.{is_far, is_aged, is_badly_presented}
use Rattle.places.proofs.Laws.Free.{lowest_free_within}
use Rattle.origin.specs.declared.Origin.{Origin}
use Rattle.places.specs.Places.{lowest_free, with_place, without_place}
use Rattle.register.specs.declared.Record.{Record}
use Rattle.register.specs.declared.Reading.{Reading}
use Rattle.register.specs.declared.Opening.{Opening}
use Rattle.register.specs.Register.{Call, presents, is_other_stream}
use Rattle.register.specs.Register.{report_checks, farewell_checks}
use Rattle.register.specs.Tallies.{Members}
use Rattle.register.proofs.Stands.{accepted_room}
use Rattle.register.proofs.Tallies.{rows-set}
use Rattle.choosing.specs.Marked.{nowhere}
use Rattle.choosing.proofs.Laws.Marked.{row_at}
use Rattle.table.specs.declared.Table.{Table}
use Rattle.table.specs.Members.{opening_of, records_in, place_in}
use Rattle.table.specs.Calls.{is_member, elsewhere_at, is_elsewhere, no_room_at, is_without_room, number_of, with_held, tally_at, filed, accepted_by, with_raised, source_of, refused_by, answered}
use Rattle.table.proofs.Laws.Members.{set_same}

-- ---- any call

-- refused with another number than 14, it leaves the table as it was
pub call_refused :
    (t : Table) → (call : Call) → (n : ℕ) → n ≡ number_of t call → (n ≡ 0 → ⊥) → (n ≡ other_origin → ⊥) →
    record { number = n; table = t } ≡ answered t call
unfolding answered refused_by
call_refused t call n e h k =
    let refused : eqb (number_of t call) 0 ≡ false = ne_eqb (number_of t call) 0 (λ z. h (e ∙ z)) in
    let other : eqb (number_of t call) other_origin ≡ false = ne_eqb (number_of t call) other_origin (λ z. k (e ∙ z)) in
    rw (refused, other, e) refl

-- refused with 14, it leaves a table with that tallied
call_tallied :
    (t t' : Table) → (call : Call) → number_of t call ≡ other_origin → t' ≡ with_raised t (place_in t (source_of call)) →
    record { number = other_origin; table = t' } ≡ answered t call
unfolding answered refused_by
call_tallied t t' call e h = rw (e, h) refl

pub call_accepted :
    (t t' : Table) → (call : Call) → number_of t call ≡ 0 → t' ≡ accepted_by t call →
    record { number = 0; table = t' } ≡ answered t call
unfolding answered
call_accepted t t' call e h = rw (e, h) refl

-- ---- at a number's place

module _ (t : Table) (source place : ℕ) (e : place ≡ place_in t source) where
  -- what the search and the record at the place say of an origin
  pub elsewhere_there :
      (origin : Origin) → (b : Bool) →
      b ≡ elsewhere_at (records_in t) place origin →
      b ≡ is_elsewhere t source origin
  elsewhere_there origin b h = rw e at h

  pub without_room_there :
      (b : Bool) → b ≡ no_room_at place t.held → b ≡ is_without_room t source
  without_room_there b h = rw e at h

-- ---- a farewell

module _ (t : Table) (source place : ℕ) (origin : Origin) (e : place ≡ place_in t source) where
  -- whether another origin holds the number
  abbrev pub is_other : Bool
  is_other = is_elsewhere t source origin

  pub farewell_stranger :
      64 ≤ place → record { number = no_member; table = t } ≡ answered t (Call.farewell source origin)
  unfolding number_of farewell_checks
  farewell_stranger h =
      let new : is_member t source ≡ false = le-ltb (place_in t source) 64 (omega arith) in
      call_refused t (Call.farewell source origin) no_member (rw new refl) (λ z. omega arith) (λ z. omega arith)

  pub farewell_elsewhere :
      (t' : Table) → place < 64 → is_other ≡ true → t' ≡ with_raised t place →
      record { number = other_origin; table = t' } ≡ answered t (Call.farewell source origin)
  unfolding number_of farewell_checks
  farewell_elsewhere t' h f g =
      let known : is_member t source ≡ true = lt-ltb (place_in t source) 64 (omega arith) in
      call_tallied t t' (Call.farewell source origin) (rw (f, known) refl) (rw e at g)

  pub farewell-taken :
      (word : ℕ) → place < 64 → is_other ≡ false → word ≡ without_place t.held place →
      record { number = 0; table = with_held t word } ≡ answered t (Call.farewell source origin)
  unfolding number_of farewell_checks
  farewell-taken word h f g =
      let known : is_member t source ≡ true = lt-ltb (place_in t source) 64 (omega arith) in
      call_accepted t (with_held t word) (Call.farewell source origin) (rw (f, known) refl) (rw (g, e) refl)

-- ---- a report

-- 14 is the answer of the second check alone
second_check :
    (a elsewhere c d e full : Bool) →
    cond a other_stream
    (cond elsewhere other_origin (cond c received_far (cond d rtp_aged (cond e badly_presented (cond full no_room 0)))))
    ≡ other_origin →
    elsewhere ≡ true
second_check a true c d e full z = refl
second_check true false c d e full z = absurd (omega (arith, z))
second_check false false true d e full z = absurd (omega (arith, z))
second_check false false false true e full z = absurd (omega (arith, z))
second_check false false false false true full z = absurd (omega (arith, z))
second_check false false false false false true z = absurd (omega (arith, z))
second_check false false false false false false z = absurd (omega (arith, z))

pub report_elsewhere :
    (o : Opening) (x : Record) (at : Reading) (elsewhere full : Bool) →
    report_checks o x at elsewhere full ≡ other_origin → elsewhere ≡ true
unfolding report_checks
report_elsewhere o x at elsewhere full e =
    second_check (is_other_stream o x.report.group x.report.media) elsewhere
    (is_far at.ntp x.report.received) (is_aged o.rate at.rtp x.report.rtp)
    (presents x && is_badly_presented x.report.received x.report.presented) full e

module _ (t : Table) (x : Record) (at : Reading) where
  -- the number, from what the search says of the report's source
  pub report_number_there :
      (place : ℕ) → (elsewhere full : Bool) → (n : ℕ) → place ≡ place_in t x.source →
      elsewhere ≡ elsewhere_at (records_in t) place x.origin →
      full ≡ no_room_at place t.held →
      n ≡ report_checks (opening_of t) x at elsewhere full →
      n ≡ number_of t (Call.report x at)
  unfolding number_of
  report_number_there place elsewhere full n e f g h =
      let there : elsewhere ≡ is_elsewhere t x.source x.origin =
      elsewhere_there t x.source place e x.origin elsewhere f in
      let room : full ≡ is_without_room t x.source = without_room_there t x.source place e full g in
      rw (there, room) at h

  pub report-tallied :
      (place n : ℕ) → (t' : Table) → n ≡ number_of t (Call.report x at) → n ≡ other_origin →
      place ≡ place_in t x.source →
      t' ≡ with_raised t place → record { number = n; table = t' } ≡ answered t (Call.report x at)
  report-tallied place n t' e given f g =
      rw given (call_tallied t t' (Call.report x at) (sym e ∙ given) (rw f at g))

  pub report_room : number_of t (Call.report x at) ≡ 0 → is_without_room t x.source ≡ false
  unfolding number_of
  report_room e =
      accepted_room (opening_of t) x at (is_elsewhere t x.source x.origin) (is_without_room t x.source) e

-- a new member that finds room: the lowest free place is one of the 64
pub free_place_lem :
    (t : Table) (source : ℕ) → is_member t source ≡ false → is_without_room t source ≡ false → lowest_free 64 t.held < 64
free_place_lem t source new room =
    let found : eqb (lowest_free 64 t.held) 64 ≡ false = rw new at room in
    omega (arith, eqb-false (lowest_free 64 t.held) 64 found, lowest_free_within 64 t.held)

module _ (t : Table) (x : Record) (place : ℕ) (e : place ≡ place_in t x.source) (members : Members) where
  pub filed_again :
      place < 64 → members ≡ set t.members place (record { «record» = x; tally = tally_at t place }) →
      record { opening = t.opening; held = t.held; members = members } ≡ filed t x
  unfolding filed
  filed_again h f = rw (lt-ltb (place_in t x.source) 64 (omega arith), f, e) refl

  pub filed_anew :
      (free word : ℕ) → 64 ≤ place → free ≡ lowest_free 64 t.held → word ≡ with_place t.held free →
      members ≡ set t.members free (record { «record» = x; tally = 0 }) →
      record { opening = t.opening; held = word; members = members } ≡ filed t x
  unfolding filed
  filed_anew free word h f g k = rw (le-ltb (place_in t x.source) 64 (omega arith), k, g, f) refl

-- ---- a refusal tallied

-- no record is altered
pub records-tallied : (t : Table) (place : ℕ) → records_in (with_raised t place) ≡ records_in t
records-tallied t place =
    rows-set t.members place _
    ∙ ap (λ (x : Record). set (records_in t) place x) (sym (row_at t.members place))
    ∙ set_same (records_in t) place nowhere
