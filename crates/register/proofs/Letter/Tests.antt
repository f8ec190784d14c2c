-- The register's tests tell what the table of refusals says, where its rows are all that stand: so do its answers.
use Prim.Native.Nat.{ℕ, ◌≤◌}
use mathlib.Core.Bool.{Bool, false, not, cond, ◌&&◌, ◌||◌, or_assoc}
use mathlib.Core.List.{[], ◌∷◌, Memᴰ}
use mathlib.Core.Path.{◌≡◌, refl, ap, ◌∙◌}
use lib.Dec.{ltb, eqb}
use lib.ListN.{length}
use native.Mathlib.Omega.{arith}
use borrow.Author.Tests.{eqb-true, eq-eqb, ne_eqb}
use Rattle.refusals.specs.Refusals.{bad_opening}
use Rattle.times.specs.Times.{is_far, is_aged, is_badly_presented}
use Rattle.origin.specs.declared.Origin.{Origin}
use Rattle.origin.specs.Origins.{same_origin}
use Rattle.origin.proofs.Laws.{same_origin_equal, equal_same_origin}
use Rattle.register.specs.declared.Record.{Record}
use Rattle.register.specs.declared.Reading.{Reading}
use Rattle.register.specs.declared.Opening.{Opening}
use Rattle.register.specs.Register.{Rows, Call, is_refused_opening, filter, any, presents, has_number}
use Rattle.register.specs.Register.{is_held_elsewhere, is_other_stream, report_checks, has_no_room, farewell_checks}
use Rattle.register.specs.Register.{answer, fresh_at}
use Rattle.register.specs.Promise.{Unique}
use Rattle.register.specs.Letter.{History, OtherStream, StillFresh, BadOpening, BadlyPresented, Stands, AreAll}
use Rattle.register.specs.Letter.{HeldElsewhere, NotHeld, NoRoom, opening_lines, lines_of, NoneOf, MeansBehind}
use Rattle.register.specs.Letter.{Means}
use Rattle.register.proofs.Rows.{member_kept, length_filter_<}
use Rattle.register.proofs.Unique.{unique-rest}
use Rattle.register.proofs.Letter.Lines.{Tells, tells_equal, tells_less, tells_none, tells_not, tells_and}
use Rattle.register.proofs.Letter.Lines.{tells_or, tells_any, stable, first_means}
use Rattle.register.proofs.Letter.Members.{alone}

-- ---- what the tests on a report's own fields tell

tells_own_stream :
    (o : Opening) (x : Record) →
    Tells (eqb x.report.group o.group && eqb x.report.media o.media)
    ((x.report.group ≡ o.group) × (x.report.media ≡ o.media))
tells_own_stream o x =
    tells_and _ _ (tells_equal x.report.group o.group) (tells_equal x.report.media o.media)

pub tells_other_stream :
    (o : Opening) (x : Record) → Tells (is_other_stream o x.report.group x.report.media) (OtherStream o x)
tells_other_stream o x = tells_not _ (tells_own_stream o x)

pub tells_fresh : (o : Opening) (at : Reading) (x : Record) → Tells (fresh_at o at x) (StillFresh o at x)
tells_fresh o at x = tells_and _ _ (tells_not _ (tells_less _ _)) (tells_not _ (tells_less _ _))

tells_origin : (a b : Origin) → Tells (same_origin a b) (a ≡ b)
tells_origin a b = (same_origin_equal a b, λ e. rw e (equal_same_origin b))

-- a report that is not of another stream is of this one
pub own_stream :
    (o : Opening) (x : Record) → (OtherStream o x → ⊥) → (x.report.group ≡ o.group) × (x.report.media ≡ o.media)
own_stream o x own = (tells_own_stream o x).0 (stable _ (tells_own_stream o x) own)

pub tells_badly_presented :
    (x : Record) →
    Tells (presents x && is_badly_presented x.report.received x.report.presented) (BadlyPresented x)
tells_badly_presented x =
    tells_and _ _ (tells_not _ (tells_equal _ _)) (tells_or _ _ (tells_less _ _) (tells_equal _ _))

pub tells_bad_opening : (o : Opening) → Tells (is_refused_opening o) (BadOpening o)
tells_bad_opening o =
    rw (or_assoc (eqb o.group 0 || eqb o.group 4294967295) (eqb o.rate 0) (ltb 192000 o.rate))
    (tells_or _ _
    (tells_or _ _ (tells_equal o.group 0) (tells_equal o.group 4294967295))
    (tells_or _ _ (tells_none o.rate) (tells_less 192000 o.rate)))

-- what opening answers means what the table of refusals says
pub opening_means : (o : Opening) → Means (opening_lines o) (cond (is_refused_opening o) bad_opening 0)
unfolding NoneOf MeansBehind
opening_means o =
    first_means (opening_lines o) (is_refused_opening o ∷ []) (tells_bad_opening o, tt) refl

-- ---- how many stand

-- rows of distinct numbers that all lie among others are no more than these
length_within : (xs ys : Rows) → Unique xs → ((x : Record) → Memᴰ x xs → Memᴰ x ys) → length xs ≤ length ys
length_within [] ys u within = omega arith
length_within (x ∷ xs) ys u within =
    let other : Record → Bool = λ r. not (has_number x.source r) in
    let own : other x ≡ false = ap not (eq-eqb x.source x.source refl) in
    let fewer : _ = length_filter_< other x ys own (within x (Memᴰ.head refl)) in
    let rest : _ =
    length_within xs (filter other ys) (unique-rest x xs u)
    (λ y m.
    member_kept other y ys
    (ap not (ne_eqb y.source x.source (alone x y xs u m)))
    (within y (Memᴰ.tail m))) in
    omega (arith, fewer, rest)

same_length : (o : Opening) (h : History) (xs ys : Rows) → AreAll o h xs → AreAll o h ys → length xs ≡ length ys
same_length o h xs ys a b =
    omega (
      arith,
      length_within xs ys a.unique (λ x m. (b.those x).1 ((a.those x).0 m)),
      length_within ys xs b.unique (λ x m. (a.those x).1 ((b.those x).0 m)),
    )

-- ---- from rows that are all that stand

module _ (o : Opening) (h : History) (rows : Rows) (all : AreAll o h rows) where
  tells_held : (source : ℕ) → Tells (any (has_number source) rows) ((x : Record) × Stands o h x × (x.source ≡ source))
  tells_held source = (
    λ e. let found : _ = (tells_any (has_number source) rows).0 e in
        (found.0, (all.those found.0).0 found.1, eqb-true found.0.source source found.2),
    λ found.
        (tells_any (has_number source) rows).1
        (found.0, (all.those found.0).1 found.1, eq-eqb found.0.source source found.2),
  )

  tells_not_held : (source : ℕ) → Tells (not (any (has_number source) rows)) (NotHeld o h source)
  tells_not_held source =
      let none : _ = tells_not _ (tells_held source) in
      (λ e x s f. none.0 e (x, s, f), λ free. none.1 (λ found. free found.0 found.1 found.2))

  tells_elsewhere :
      (source : ℕ) (origin : Origin) →
      Tells (is_held_elsewhere rows source origin) (HeldElsewhere o h source origin)
  tells_elsewhere source origin = (
    λ e. let found : _ = (tells_any there rows).0 e in
        let both : _ = (own found.0).0 found.2 in
        (found.0, (all.those found.0).0 found.1, both.0, both.1),
    λ found.
        (tells_any there rows).1
        (found.0, (all.those found.0).1 found.1, (own found.0).1 (found.2, found.3)),
  )
    where
      there : Record → Bool
      there row = has_number source row && not (same_origin row.origin origin)

      own :
          (x : Record) →
          Tells (has_number source x && not (same_origin x.origin origin))
          ((x.source ≡ source) × (x.origin ≡ origin → ⊥))
      own x = tells_and _ _ (tells_equal x.source source) (tells_not _ (tells_origin x.origin origin))

  tells_no_room : (source : ℕ) → Tells (has_no_room rows source) (NoRoom o h source)
  tells_no_room source =
      tells_and _ _ (tells_not_held source) (
        λ e. (rows, all, eqb-true (length rows) 64 e),
        λ full. eq-eqb (length rows) 64 (same_length o h rows full.0 all full.1 ∙ full.2),
      )

  -- every answer means what the table of refusals says
  pub answer_means : (call : Call) → Means (lines_of o h call) (answer o rows call)
  unfolding answer report_checks farewell_checks lines_of NoneOf MeansBehind
  answer_means (Call.report x at) =
      first_means (lines_of o h (Call.report x at))
      (is_other_stream o x.report.group x.report.media
      ∷ is_held_elsewhere rows x.source x.origin
      ∷ is_far at.ntp x.report.received
      ∷ is_aged o.rate at.rtp x.report.rtp
      ∷ (presents x && is_badly_presented x.report.received x.report.presented)
      ∷ has_no_room rows x.source
      ∷ []) (
        tells_other_stream o x,
        (
          tells_elsewhere x.source x.origin,
          (
            tells_less _ _,
            (
              tells_less _ _,
              (
                tells_badly_presented x,
                (tells_no_room x.source, tt),
              ),
            ),
          ),
        ),
      )
      refl
  answer_means (Call.farewell source origin) =
      first_means (lines_of o h (Call.farewell source origin))
      (not (any (has_number source) rows) ∷ is_held_elsewhere rows source origin ∷ [])
      (tells_not_held source, (tells_elsewhere source origin, tt))
      refl
  answer_means (Call.sweep at) = (λ e. tt, λ none. refl)
