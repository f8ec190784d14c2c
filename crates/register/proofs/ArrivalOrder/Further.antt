-- Members in another order are told apart by no further call: the same answers, and the same members afterwards.
use Prim.Native.Nat.{ℕ}
use mathlib.Core.Bool.{Bool, true, false, cond}
use mathlib.Core.List.{List, [], ◌∷◌, Permᴰ}
use mathlib.Core.Path.{◌≡◌, refl, sym, ap, ap₂, subst, ◌∙◌}
use Rattle.register.specs.declared.Member.{Member}
use Rattle.register.specs.declared.Opening.{Opening}
use Rattle.register.specs.Register.{Rows, Call, any, has_number, after, answers}
use Rattle.register.specs.Tallies.{Members, records_of, tally_in, with_tallies, tally_behind, tally_after}
use Rattle.register.specs.Tallies.{members_after, members_after_all}
use Rattle.register.specs.Promise.{Unique}
use Rattle.register.proofs.Rows.{clash, or_false}
use Rattle.register.proofs.Unique.{unique-permuted, unique-rest, none_after}
use Rattle.register.proofs.Permuted.{answer-permuted, after-permuted, unique-after}
use Rattle.register.proofs.Tallies.{rows-after, with_permuted}
use Rattle.register.proofs.ArrivalOrder.Reports.{with_same}

pub rows-permuted : {ms ms' : Members} → Permᴰ ms ms' → Permᴰ (records_of ms) (records_of ms')
unfolding records_of
rows-permuted Permᴰ.nil = Permᴰ.nil
rows-permuted (Permᴰ.cons e d) = Permᴰ.cons (ap (λ (m : Member). m.«record») e) (rows-permuted d)
rows-permuted (Permᴰ.swap e f) =
    Permᴰ.swap (ap (λ (m : Member). m.«record») e) (ap (λ (m : Member). m.«record») f)
rows-permuted (Permᴰ.trans d e) = Permᴰ.trans (rows-permuted d) (rows-permuted e)

-- the member's tally if it has the number, else this one
abbrev tally_or : ℕ → Member → ℕ → ℕ
tally_or source m tally = cond (has_number source m.«record») m.tally tally

-- of two members of which not both have the number, either may come first
tally_or_swap :
    (source : ℕ) (m n : Member) (tally : ℕ) →
    (has_number source m.«record» ≡ true → has_number source n.«record» ≡ false) →
    tally_or source m (tally_or source n tally) ≡ tally_or source n (tally_or source m tally)
tally_or_swap source m n tally apart = go (has_number source m.«record») (has_number source n.«record») refl refl
  where
    go :
        (s t : Bool) → has_number source m.«record» ≡ s → has_number source n.«record» ≡ t →
        cond s m.tally (cond t n.tally tally) ≡ cond t n.tally (cond s m.tally tally)
    go true true e f = clash (sym (apart e) ∙ f)
    go true false e f = refl
    go false true e f = refl
    go false false e f = refl

tally_permuted :
    (source : ℕ) {ms ms' : Members} → Permᴰ ms ms' → Unique (records_of ms) →
    tally_in ms source ≡ tally_in ms' source
unfolding tally_in records_of any
tally_permuted source Permᴰ.nil u = refl
tally_permuted source (Permᴰ.cons {a} {b} {l₁} {l₂} e d) u =
    ap (λ (m : Member). tally_or source m (tally_in l₁ source)) e
    ∙ ap (tally_or source b) (tally_permuted source d (unique-rest a.«record» (records_of l₁) u))
tally_permuted source (Permᴰ.swap {a} {b} {a'} {b'} {l} e f) u =
    tally_or_swap source a b (tally_in l source)
    (λ here. (or_false _ _ (none_after source a.«record» (records_of (b ∷ l)) u here)).0)
    ∙ ap₂ (λ (m n : Member). tally_or source m (tally_or source n (tally_in l source))) f e
tally_permuted source (Permᴰ.trans d e) u =
    tally_permuted source d u ∙ tally_permuted source e (unique-permuted (rows-permuted d) u)

-- ---- calls

module _ (o : Opening) (call : Call) {ms ms' : Members} (d : Permᴰ ms ms') (u : Unique (records_of ms)) where
  tally_after-permuted : (source : ℕ) → tally_after o ms call source ≡ tally_after o ms' call source
  tally_after-permuted source =
      ap₂ (λ (number tally : ℕ). tally_behind call number source tally) (answer-permuted o call (rows-permuted d))
      (tally_permuted source d u)

  members_after-permuted : Permᴰ (members_after o ms call) (members_after o ms' call)
  unfolding members_after
  members_after-permuted =
      subst
      (λ (those : Members). Permᴰ those (with_tallies (tally_after o ms' call) (after o (records_of ms') call)))
      (sym (with_same (tally_after o ms call) (tally_after o ms' call) _ tally_after-permuted))
      (with_permuted (tally_after o ms' call) (after-permuted o call (rows-permuted d) u))

pub unique-members :
    (o : Opening) (call : Call) (ms : Members) → Unique (records_of ms) → Unique (records_of (members_after o ms call))
unique-members o call ms u = rw (rows-after o ms call) (unique-after o call (records_of ms) u)

pub unique_members_all :
    (o : Opening) (calls : List Call) (ms : Members) → Unique (records_of ms) →
    Unique (records_of (members_after_all o ms calls))
unfolding members_after_all
unique_members_all o [] ms u = u
unique_members_all o (call ∷ calls) ms u =
    unique_members_all o calls (members_after o ms call) (unique-members o call ms u)

-- the same answers to any list of calls, and the same members afterwards
pub further_permuted :
    (o : Opening) (further : List Call) {ms ms' : Members} → Permᴰ ms ms' → Unique (records_of ms) →
    (answers o (records_of ms) further ≡ answers o (records_of ms') further)
    × Permᴰ (members_after_all o ms further) (members_after_all o ms' further)
unfolding answers members_after_all
further_permuted o [] d u = (refl, d)
further_permuted o (call ∷ further) {ms} {ms'} d u =
    let rest : _ =
    further_permuted o further (members_after-permuted o call d u) (unique-members o call ms u) in
    let rows : (those : Members) → answers o (records_of (members_after o those call)) further
    ≡ answers o (after o (records_of those) call) further =
    (λ those. ap (λ (rs : Rows). answers o rs further) (rows-after o those call)) in (
      ap₂ ◌∷◌ (answer-permuted o call (rows-permuted d)) (sym (rows ms) ∙ rest.0 ∙ rows ms'),
      rest.1,
    )
