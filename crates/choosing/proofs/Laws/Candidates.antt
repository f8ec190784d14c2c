-- The walk of the code for the latest member: a step over a place is `latest`'s step over its row.
use Prim.Native.Nat.{ℕ, ◌+◌, ◌/◌, ◌≤◌, ◌<◌}
use mathlib.Core.Bool.{Bool, true, false, cond}
use mathlib.Core.List.{[], ◌∷◌}
use mathlib.Core.Path.{◌≡◌, refl, sym, ap, ◌∙◌}
use lib.IntN.{ℤ}
use lib.ListN.{length, get_or, drop, drop_of_length-le}
use native.Mathlib.Omega.{arith}
use Rattle.std.specs.Prelude.{Option, Some, None, Result, Err}
use Rattle.refusals.specs.declared.RefusalNumber.{RefusalNumber}
use Rattle.places.specs.Places.{is_free}
use Rattle.register.specs.declared.Record.{Record}
use Rattle.register.specs.declared.Reading.{Reading}
use Rattle.register.specs.declared.Target.{Target}
use Rattle.register.specs.Register.{Rows}
use Rattle.register.specs.Choosing.{precedes, target_of}
use Rattle.choosing.specs.Latest.{latest, latest_of}
use Rattle.choosing.specs.declared.Candidate.{Candidate}
use Rattle.choosing.specs.Marked.{marked_at, nowhere}
use Rattle.choosing.specs.Choose.{latest_target}
use Rattle.choosing.specs.Lateness.{biased_late, candidate_at, stays_latest, latest_next, IsLatest}
use Rattle.choosing.proofs.Laws.Latest.{latest-cons}
use Rattle.choosing.proofs.Laws.Marked.{marked_free_at, marked_held_at}

-- a candidate stands for the row at its place
abbrev pub StandsFor : ℕ → Reading → Rows → Candidate → Type 0
StandsFor rate at ms a = (a.place < 64) × (a ≡ candidate_at rate at a.place (get_or ms a.place nowhere))

abbrev pub IfStandsFor : ℕ → Reading → Rows → Option Candidate → Type 0
IfStandsFor rate at ms None = Unit
IfStandsFor rate at ms (Some a) = StandsFor rate at ms a

-- the latest of a candidate's row, if there is one, and of rows to come
abbrev pub latest_from : (Record → ℤ) → Rows → Option Candidate → Rows → Option Record
latest_from late ms None rows = latest_of late rows
latest_from late ms (Some a) rows = Some (latest late (get_or ms a.place nowhere) rows)

pub stays_precedes :
    (rate : ℕ) (at : Reading) (ms : Rows) (a : Candidate) (i : ℕ) (row : Record) → StandsFor rate at ms a →
    stays_latest a (candidate_at rate at i row) ≡ precedes (biased_late rate at) (get_or ms a.place nowhere) row
stays_precedes rate at ms a i row stands =
    ap (λ (x : Candidate). stays_latest x (candidate_at rate at i row)) stands.1

-- after i places: the latest so far, and with the rows to come the latest of all
pub record LatestSoFar (rate : ℕ) (at : Reading) (word : ℕ) (ms : Rows) (a : Option Candidate) (rest i : ℕ) : Type 0
  where
    pub stands : IfStandsFor rate at ms a
    pub whole :
        latest_from (biased_late rate at) ms a (marked_at rest (drop i ms))
        ≡ latest_of (biased_late rate at) (marked_at word ms)

pub latest-start : {rate : ℕ} {at : Reading} {word : ℕ} {ms : Rows} → LatestSoFar rate at word ms None word 0
latest-start = record { stands = tt; whole = refl }

module _ {rate : ℕ} {at : Reading} {word : ℕ} {ms : Rows} {rest i : ℕ} (below : i < 64) (within : i < length ms) where
  -- a free place changes nothing
  step_free :
      (a : Option Candidate) → LatestSoFar rate at word ms a rest i → is_free rest ≡ true →
      LatestSoFar rate at word ms a (rest / 2) (i + 1)
  step_free a so free =
      record {
        stands = so.stands;
        whole = sym (ap (latest_from (biased_late rate at) ms a) (marked_free_at rest ms i within free)) ∙ so.whole;
      }

  step_first :
      LatestSoFar rate at word ms None rest i → is_free rest ≡ false →
      LatestSoFar rate at word ms (Some (candidate_at rate at i (get_or ms i nowhere))) (rest / 2) (i + 1)
  unfolding latest_of
  step_first so held =
      record {
        stands = (below, refl);
        whole = sym (ap (latest_of (biased_late rate at)) (marked_held_at rest ms i within held)) ∙ so.whole;
      }

  step_held :
      (a : Candidate) → LatestSoFar rate at word ms (Some a) rest i → is_free rest ≡ false →
      (t : Bool) → stays_latest a (candidate_at rate at i (get_or ms i nowhere)) ≡ t →
      LatestSoFar rate at word ms (Some (cond t a (candidate_at rate at i (get_or ms i nowhere)))) (rest / 2) (i + 1)
  step_held a so held t e =
      record { stands = stands t; whole = sym (next t later) ∙ so.whole }
    where
      later : precedes (biased_late rate at) (get_or ms a.place nowhere) (get_or ms i nowhere) ≡ t
      later = sym (stays_precedes rate at ms a i (get_or ms i nowhere) so.stands) ∙ e

      stands : (t : Bool) → StandsFor rate at ms (cond t a (candidate_at rate at i (get_or ms i nowhere)))
      stands true = so.stands
      stands false = (below, refl)

      next :
          (t : Bool) → precedes (biased_late rate at) (get_or ms a.place nowhere) (get_or ms i nowhere) ≡ t →
          latest_from (biased_late rate at) ms (Some a) (marked_at rest (drop i ms))
          ≡ latest_from (biased_late rate at) ms (Some (cond t a (candidate_at rate at i (get_or ms i nowhere))))
          (marked_at (rest / 2) (drop (i + 1) ms))
      next true q =
          ap (latest_from (biased_late rate at) ms (Some a)) (marked_held_at rest ms i within held)
          ∙ ap Some (latest-cons (biased_late rate at) (get_or ms a.place nowhere) (get_or ms i nowhere) _ true q)
      next false q =
          ap (latest_from (biased_late rate at) ms (Some a)) (marked_held_at rest ms i within held)
          ∙ ap Some (latest-cons (biased_late rate at) (get_or ms a.place nowhere) (get_or ms i nowhere) _ false q)

  pub latest-step :
      (a next : Option Candidate) → LatestSoFar rate at word ms a rest i →
      next ≡ latest_next rest a (candidate_at rate at i (get_or ms i nowhere)) →
      LatestSoFar rate at word ms next (rest / 2) (i + 1)
  latest-step a next so e = rw e (go a so (is_free rest) refl)
    where
      go :
          (a : Option Candidate) → LatestSoFar rate at word ms a rest i → (s : Bool) → is_free rest ≡ s →
          LatestSoFar rate at word ms (latest_next rest a (candidate_at rate at i (get_or ms i nowhere))) (rest / 2)
          (i + 1)
      go None so true p = rw p (step_free None so p)
      go None so false p = rw p (step_first so p)
      go (Some a) so true p = rw p (step_free (Some a) so p)
      go (Some a) so false p =
          rw p (step_held a so p (stays_latest a (candidate_at rate at i (get_or ms i nowhere))) refl)

pub latest_end :
    {rate : ℕ} {at : Reading} {word : ℕ} {ms : Rows} {rest i : ℕ} (a : Option Candidate) → length ms ≤ i →
    LatestSoFar rate at word ms a rest i → IsLatest rate at word ms a
unfolding marked_at latest_of latest
latest_end {rate} {at} {word} {ms} {rest} {i} None h so =
    sym so.whole
    ∙ ap (λ (l : Rows). latest_of (biased_late rate at) (marked_at rest l)) (drop_of_length-le ms h)
latest_end {rate} {at} {word} {ms} {rest} {i} (Some a) h so = (
  so.stands.0,
  so.stands.1,
  sym so.whole
      ∙ ap (λ (l : Rows). latest_from (biased_late rate at) ms (Some a) (marked_at rest l)) (drop_of_length-le ms h),
)

-- ---- the latest as the target

pub latest_target-none :
    (late : Record → ℤ) (n : ℕ) (rows : Rows) → latest_of late rows ≡ None →
    Err RefusalNumber.NoneCounted ≡ latest_target late n rows
unfolding latest_of latest_target
latest_target-none late n [] e = refl
latest_target-none late n (row ∷ rows) e = grind arith

pub latest_target_one :
    (late : Record → ℤ) (n : ℕ) (rows : Rows) (row : Record) → latest_of late rows ≡ Some row →
    target_of row n ≡ latest_target late n rows
unfolding latest_of latest_target
latest_target_one late n [] row e = grind arith
latest_target_one late n (a ∷ rows) row e = ap (λ (x : Option Record). target_in x) (sym e)
  where
    target_in : Option Record → Result Target RefusalNumber
    target_in None = Err RefusalNumber.NoneCounted
    target_in (Some x) = target_of x n
