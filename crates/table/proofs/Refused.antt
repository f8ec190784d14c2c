-- What a refusal leaves, and that choosing looks at no tally: from the definitions, whatever the table.
use Prim.Native.Nat.{ℕ}
use mathlib.Core.Bool.{Bool, true, false, not, cond, and-eq-true_iff}
use mathlib.Core.Path.{◌≡◌, refl, sym, ap, ◌∙◌}
use lib.Dec.{eqb}
use lib.ListN.{length, get_or}
use native.Mathlib.Omega.{arith}
use borrow.Author.Tests.{ne_eqb, not-true}
use Rattle.origin.specs.declared.Origin.{Origin}
use Rattle.origin.specs.Origins.{same_origin}
use Rattle.origin.proofs.Laws.{equal_same_origin}
use Rattle.refusals.specs.Refusals.{other_origin}
use Rattle.register.specs.declared.Record.{Record}
use Rattle.register.specs.declared.Opening.{Opening}
use Rattle.register.specs.Register.{Rows, Call}
use Rattle.register.specs.Letter.{FromTwin, tallied}
use Rattle.register.proofs.Rows.{clash}
use Rattle.choosing.specs.Marked.{nowhere}
use Rattle.choosing.specs.Choose.{choice_among}
use Rattle.table.specs.declared.Table.{Table}
use Rattle.table.specs.declared.Place.{Place}
use Rattle.table.specs.Members.{place_at, records_in, place_in}
use Rattle.table.specs.Calls.{is_member, is_elsewhere, number_of, with_raised, source_of, refused_by, answered}
use Rattle.table.specs.Choose.{choice_of}
use Rattle.table.specs.PlaceTaken.{ShowsMember, OnlyAt}
use Rattle.table.specs.Refused.{AlikeButTallies, LeavesRecords, LeavesTable, TalliesHolder, EveryRefusal}
use Rattle.table.specs.Refused.{ChoosesWithoutTallies}
use Rattle.table.proofs.Laws.Cases.{records-tallied}
use Rattle.table.proofs.Agreement.Calls.{Owned, owned}
use Rattle.table.proofs.Agreement.Tallies.{IsElsewhere, twin_elsewhere, twin_number}
use Rattle.table.proofs.Agreement.Theorem.{shown_there, shown_record}
use Rattle.table.proofs.PlaceTaken.{shows_held, only_again}

refused-table :
    (t : Table) (call : Call) → ((answered t call).number ≡ 0 → ⊥) →
    (answered t call).table ≡ refused_by t call (number_of t call)
unfolding answered
refused-table t call refused = rw (ne_eqb (number_of t call) 0 refused) refl

leaves-records : (t : Table) (call : Call) → LeavesRecords t call
unfolding refused_by
leaves-records t call refused = rw (refused-table t call refused) (go (eqb (number_of t call) other_origin))
  where
    go : (b : Bool) → AlikeButTallies t (cond b (with_raised t (place_in t (source_of call))) t)
    go true = (refl, refl, sym (records-tallied t (place_in t (source_of call))))
    go false = (refl, refl, refl)

leaves_table : (t : Table) (call : Call) → LeavesTable t call
unfolding answered refused_by
leaves_table t call refused other =
    refused-table t call refused ∙ rw (ne_eqb (number_of t call) other_origin other) refl

-- ---- 14

-- a record that stands elsewhere has another origin
other_origin_lem :
    (t : Table) (source : ℕ) (origin : Origin) (x : Record) → is_elsewhere t source origin ≡ true →
    get_or (records_in t) (place_in t source) nowhere ≡ x → origin ≡ x.origin → ⊥
other_origin_lem t source origin x elsewhere there same =
    let there-origin : (get_or (records_in t) (place_in t source) nowhere).origin ≡ origin =
    ap (λ (y : Record). y.origin) there ∙ sym same in
    let apart : _ =
    ((and-eq-true_iff (is_member t source)
    (not (same_origin (get_or (records_in t) (place_in t source) nowhere).origin origin))).0 elsewhere).1 in
    clash (sym (not-true _ (rw there-origin at apart)) ∙ equal_same_origin origin)

-- 14 is given to a twin of the member with its number
from_twin_lem :
    (t : Table) (call : Call) (x : Record) → IsElsewhere t call →
    get_or (records_in t) (place_in t (source_of call)) nowhere ≡ x → x.source ≡ source_of call → FromTwin x call
from_twin_lem t (Call.report y at) x elsewhere there number =
    (sym number, other_origin_lem t y.source y.origin x elsewhere there)
from_twin_lem t (Call.farewell source origin) x elsewhere there number =
    (sym number, other_origin_lem t source origin x elsewhere there)
from_twin_lem t (Call.sweep at) x elsewhere there number = elsewhere

tallies_holder : (t : Table) → length t.members ≡ 64 → (call : Call) → TalliesHolder t call
unfolding answered refused_by
tallies_holder t long call given =
    let r : ℕ = place_in t (source_of call) in
    let elsewhere : IsElsewhere t call = twin_elsewhere t call given in
    let w : Owned t (source_of call) = owned t (source_of call) long (twin_number t call elsewhere).0 in
    let shows : ShowsMember t r = ap (λ (s : Place). s.held) (shows_held t r w.below w.held) in
    let shown : (place_at t r).member.«record» ≡ get_or (records_in t) r nowhere = shown_record t r shows in
    let twin : FromTwin (place_at t r).member.«record» call =
    from_twin_lem t call (place_at t r).member.«record» elsewhere (sym shown)
    (ap (λ (x : Record). x.source) shown ∙ w.number) in
    let only : OnlyAt r (tallied other_origin (place_at t r).member) t (with_raised t r) =
    rw (shown_there t r shows).2 (only_again t r _ w.below (omega (arith, w.below, long)) w.held) in
    (r, shows, twin, rw given only)

pub every_refusal : EveryRefusal
every_refusal = record { records = leaves-records; others = leaves_table; twins = tallies_holder }

-- ---- choosing

pub chooses_without_tallies : ChoosesWithoutTallies
unfolding choice_of
chooses_without_tallies t u same at =
    ap (λ (o : Opening). choice_among o.rate at t.held (records_in t)) same.0
    ∙ ap (λ (word : ℕ). choice_among u.opening.rate at word (records_in t)) same.1
    ∙ ap (λ (rows : Rows). choice_among u.opening.rate at u.held rows) same.2
