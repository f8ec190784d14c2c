-- Where an accepted report stands, as the places show it: the lowest free one by the law of `places`, or a member's
-- own by its search.
use Prim.Native.Nat.{ℕ, ◌≤◌, ◌<◌}
use mathlib.Core.Bool.{Bool, true, false, not, cond, ◌&&◌, and-eq-true_iff}
use mathlib.Core.List.Permᴰ
use mathlib.Core.Path.{◌≡◌, refl, sym, ap, ◌∙◌}
use lib.Dec.{eqb}
use lib.ListN.{length, get_or}
use lib.Seq.{get_or-set_same, get_or-set_other}
use native.Mathlib.Omega.{arith}
use borrow.Author.Tests.{eqb-true, eq-eqb, ltb-false, lt-ltb, not-true}
use Rattle.places.specs.Places.{is_held, lowest_free, with_place}
use Rattle.places.proofs.Laws.Bits.{with_here, with_other}
use Rattle.places.proofs.Laws.Free.{lowest_free-place, lowest_free_below}
use Rattle.refusals.specs.Refusals.{other_stream, other_origin, received_far, rtp_aged, badly_presented, no_room}
use Rattle.register.specs.declared.Record.{Record}
use Rattle.register.specs.declared.Member.{Member}
use Rattle.register.specs.declared.Reading.{Reading}
use Rattle.times.specs.Times.{is_far, is_aged, is_badly_presented}
use Rattle.register.specs.declared.Opening.{Opening}
use Rattle.register.specs.Register.{Rows, Call, presents, has_number, is_other_stream, report_checks}
use Rattle.register.specs.Tallies.{records_of}
use Rattle.register.proofs.Tallies.{length-rows}
use Rattle.register.proofs.Rows.{clash}
use Rattle.register.proofs.Letter.Lines.{tells_any}
use Rattle.register.proofs.Unique.{unique-permuted}
use Rattle.choosing.specs.Marked.{nowhere, nobody, marked_at}
use Rattle.table.specs.declared.Table.{Table}
use Rattle.table.specs.declared.Place.{Place}
use Rattle.table.specs.Members.{opening_of, place_at, records_in, place_in}
use Rattle.table.specs.Calls.{is_member, is_elsewhere, is_without_room, number_of, answered}
use Rattle.table.specs.Calls.{with_held, with_member, filed}
use Rattle.table.specs.PlaceTaken.{ShowsMember, AllShown, LowestShownFree, IsNew, OnlyAt, EveryReport}
use Rattle.table.proofs.Laws.Cases.{report_room, free_place_lem}
use Rattle.table.proofs.Laws.Members.{place_found, member_at_place, place-once}
use Rattle.table.proofs.Agreement.Calls.{Holds, Owned, owned, anew}
use Rattle.table.proofs.Agreement.Theorem.{shown_there, shown_record, reached_holds}

-- ---- what a place shows

pub shows_held :
    (t : Table) (place : ℕ) → place < 64 → is_held place t.held ≡ true →
    place_at t place ≡ record { held = 1; member = get_or t.members place nobody }
unfolding place_at
shows_held t place h held = rw (lt-ltb place 64 h, held) refl

shows_none : (t : Table) (place : ℕ) → place < 64 → is_held place t.held ≡ false → (place_at t place).held ≡ 0
unfolding place_at
shows_none t place h free = rw (lt-ltb place 64 h, free) refl

-- ---- a member that is put at a place

-- at a free place, which is marked
only_anew :
    (t : Table) (r : ℕ) (m : Member) → r < 64 → r < length t.members → is_held r t.held ≡ false →
    OnlyAt r m t (with_member (with_held t (with_place t.held r)) r m)
unfolding place_at
only_anew t r m below within free = (here, there)
  where
    then : Table
    then = with_member (with_held t (with_place t.held r)) r m

    here : place_at then r ≡ record { held = 1; member = m }
    here =
        shows_held then r below (with_here t.held r below free)
        ∙ ap (λ (y : Member). record { held = 1; member = y }) (get_or-set_same t.members r m nobody within)

    there : (place : ℕ) → (place ≡ r → ⊥) → place_at then place ≡ place_at t place
    there place apart =
        rw (with_other t.held r place below free apart, get_or-set_other t.members r place m nobody apart) refl

-- at a held one
pub only_again :
    (t : Table) (r : ℕ) (m : Member) → r < 64 → r < length t.members → is_held r t.held ≡ true →
    OnlyAt r m t (with_member t r m)
unfolding place_at
only_again t r m below within held = (
  shows_held (with_member t r m) r below held
      ∙ ap (λ (y : Member). record { held = 1; member = y }) (get_or-set_same t.members r m nobody within),
  λ place apart. rw (get_or-set_other t.members r place m nobody apart) refl,
)

-- ---- whose number it is

-- a number that no place shows is no member's
new-no_member : (t : Table) (source : ℕ) → length t.members ≡ 64 → IsNew t source → is_member t source ≡ false
new-no_member t source long new = go (is_member t source) refl
  where
    go : (b : Bool) → is_member t source ≡ b → is_member t source ≡ false
    go true e =
        let w : Owned t source = owned t source long e in
        let shows : ShowsMember t (place_in t source) =
        ap (λ (s : Place). s.held) (shows_held t (place_in t source) w.below w.held) in
        absurd
        (new (place_in t source) shows
        (ap (λ (x : Record). x.source) (shown_record t (place_in t source) shows) ∙ w.number))
    go false e = e

-- a held place is that of the member with its number
number-place :
    (o : Opening) (t : Table) (rows : Rows) → Holds o t rows → (r : ℕ) → r < 64 → is_held r t.held ≡ true →
    (is_member t (get_or (records_in t) r nowhere).source ≡ true) × (place_in t (get_or (records_in t) r nowhere).source ≡ r)
number-place o t rows h r below held = go (is_member t source) refl
  where
    source : ℕ
    source = (get_or (records_in t) r nowhere).source

    within : r < length (records_in t)
    within = omega (arith, below, h.long, length-rows t.members)

    go : (b : Bool) → is_member t source ≡ b → (is_member t source ≡ true) × (place_in t source ≡ r)
    go true e =
        let w : Owned t source = owned t source h.long e in
        let unique : _ = unique-permuted (Permᴰ.symm h.same) h.unique in (
          e,
          place-once t.held (records_in t) unique (place_in t source) r w.held held w.within within w.number,
        )
    go false e =
        let behind : 64 ≤ place_in t source = ltb-false (place_in t source) 64 e in
        let none : _ =
        (place_found source t.held (records_in t)).2 (omega (arith, behind, h.long, length-rows t.members)) in
        let member : _ = member_at_place t.held r (records_in t) nowhere held within in
        clash
        (sym none
        ∙ (tells_any (has_number source) (marked_at t.held (records_in t))).1 (_, member, eq-eqb source source refl))

-- a place that shows a number is that of the member with it
shown-place :
    (o : Opening) (t : Table) (rows : Rows) → Holds o t rows → (r source : ℕ) → ShowsMember t r →
    (place_at t r).member.«record».source ≡ source → (is_member t source ≡ true) × (place_in t source ≡ r)
shown-place o t rows h r source shows number =
    let there : _ = shown_there t r shows in
    rw (sym (ap (λ (x : Record). x.source) (shown_record t r shows)) ∙ number) at
    (number-place o t rows h r there.0 there.1)

-- ---- 18 is the answer of the last check alone

last_check :
    (a b c d e full : Bool) →
    cond a other_stream
    (cond b other_origin (cond c received_far (cond d rtp_aged (cond e badly_presented (cond full no_room 0)))))
    ≡ no_room →
    full ≡ true
last_check true b c d e full z = absurd (omega (arith, z))
last_check false true c d e full z = absurd (omega (arith, z))
last_check false false true d e full z = absurd (omega (arith, z))
last_check false false false true e full z = absurd (omega (arith, z))
last_check false false false false true full z = absurd (omega (arith, z))
last_check false false false false false true z = refl
last_check false false false false false false z = absurd (omega (arith, z))

refused_full :
    (o : Opening) (x : Record) (at : Reading) (elsewhere full : Bool) → report_checks o x at elsewhere full ≡ no_room →
    full ≡ true
unfolding report_checks
refused_full o x at elsewhere full e =
    last_check (is_other_stream o x.report.group x.report.media) elsewhere
    (is_far at.ntp x.report.received) (is_aged o.rate at.rtp x.report.rtp)
    (presents x && is_badly_presented x.report.received x.report.presented) full e

-- ---- the three sentences

accepted-report :
    (t : Table) (x : Record) (at : Reading) → (answered t (Call.report x at)).number ≡ 0 →
    (answered t (Call.report x at)).table ≡ filed t x
unfolding answered
accepted-report t x at e = rw e refl

taken_anew :
    (o : Opening) (t : Table) (rows : Rows) → Holds o t rows → (x : Record) → is_without_room t x.source ≡ false →
    IsNew t x.source → (r : ℕ) × LowestShownFree t r × OnlyAt r (anew x) t (filed t x)
unfolding filed
taken_anew o t rows h x room new =
    let none : is_member t x.source ≡ false = new-no_member t x.source h.long new in
    let below : lowest_free 64 t.held < 64 = free_place_lem t x.source none room in
    let free : _ = lowest_free_below 64 t.held h.fits below in (
      lowest_free 64 t.held,
      (
        below,
        shows_none t (lowest_free 64 t.held) below free.0,
        λ place p. ap (λ (s : Place). s.held) (shows_held t place (omega (arith, p, below)) (free.1 place p)),
      ),
      rw none (only_anew t (lowest_free 64 t.held) (anew x) below (omega (arith, below, h.long)) free.0),
    )

taken_again :
    (o : Opening) (t : Table) (rows : Rows) → Holds o t rows → (x : Record) (r : ℕ) → ShowsMember t r →
    (place_at t r).member.«record».source ≡ x.source →
    OnlyAt r (record { «record» = x; tally = (place_at t r).member.tally }) t (filed t x)
unfolding filed
taken_again o t rows h x r shows number =
    let mine : _ = shown-place o t rows h r x.source shows number in
    let there : _ = shown_there t r shows in
    rw (mine.0, mine.1, there.2) (only_again t r _ there.0 (omega (arith, there.0, h.long)) there.1)

taken-full :
    (o : Opening) (t : Table) (rows : Rows) → Holds o t rows → (source : ℕ) → is_without_room t source ≡ true →
    IsNew t source × AllShown 64 t
taken-full o t rows h source full =
    let both : _ = (and-eq-true_iff (not (is_member t source)) (eqb (lowest_free 64 t.held) 64)).0 full in
    let none : is_member t source ≡ false = not-true (is_member t source) both.0 in
    let held : _ = (lowest_free-place 64 t.held h.fits).1.0 (eqb-true (lowest_free 64 t.held) 64 both.1) in (
      λ place shows number. clash (sym none ∙ (shown-place o t rows h place source shows number).0),
      λ place p. ap (λ (s : Place). s.held) (shows_held t place p (held place p)),
    )

pub place-taken : EveryReport
unfolding answered number_of
place-taken o calls t ms reached x at =
    let rows : Rows = records_of ms in
    let h : Holds o t (records_of ms) = reached_holds o calls t ms reached in
    record {
      new =
          λ e new.
          rw (accepted-report t x at e) (taken_anew o t rows h x (report_room t x at e) new);
      own =
          λ e r shows number.
          rw (accepted-report t x at e) (taken_again o t rows h x r shows number);
      full =
          λ e.
          taken-full o t rows h x.source
          (refused_full (opening_of t) x at (is_elsewhere t x.source x.origin) (is_without_room t x.source) e);
    }
