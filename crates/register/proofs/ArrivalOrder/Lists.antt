-- Accepted reports in two lists, no number in both, in either order: a report commutes with another, so with a list of
-- them, and so a list with a list.
use Prim.Native.Nat.{ℕ}
use mathlib.Core.List.{List, [], ◌∷◌, ◌++◌, append-nil, append_assoc, Memᴰ}
use mathlib.Core.List.Permᴰ
use mathlib.Core.List.{Permᴰ}
use mathlib.Core.Logic.{◌↔◌}
use mathlib.Core.Path.{◌≡◌, refl, sym, ap, ap₂, subst, ◌∙◌}
use lib.ListN.{length}
use native.Mathlib.Omega.{arith}
use Rattle.register.specs.declared.Opening.{Opening}
use Rattle.register.specs.Register.{Rows, Call, renewed, answer, answers}
use Rattle.register.specs.Tallies.{Members, records_of, tally_in, members_after, members_after_all}
use Rattle.register.specs.Promise.{Unique}
use Rattle.register.specs.ArrivalOrder.{AllAccepted, FromDifferentSources, AllFromDifferentSources}
use Rattle.register.proofs.History.{answers-append}
use Rattle.register.proofs.Tallies.{rows-after, rows_after-all, with_permuted, members-append}
use Rattle.register.proofs.Letter.Theorem.{after-accepted}
use Rattle.register.proofs.ArrivalOrder.Reports.{second_alone, first_behind, members_of_two}
use Rattle.register.proofs.ArrivalOrder.Reports.{renewed_swap}
use Rattle.register.proofs.ArrivalOrder.Further.{unique-members, unique_members_all, further_permuted}

-- ---- accepted calls

pub accepted-append : (xs ys : List ℕ) → AllAccepted (xs ++ ys) ↔ (AllAccepted xs × AllAccepted ys)
unfolding AllAccepted
accepted-append [] ys = (λ all. (tt, all), λ both. both.1)
accepted-append (n ∷ xs) ys =
    let rest : _ = accepted-append xs ys in (
      λ all. ((all.0, (rest.0 all.1).0), (rest.0 all.1).1),
      λ both. (both.0.0, rest.1 (both.0.1, both.1)),
    )

-- as many answers, all of them 0
pub accepted-same : (xs ys : List ℕ) → AllAccepted xs → AllAccepted ys → length xs ≡ length ys → xs ≡ ys
unfolding AllAccepted
accepted-same [] [] first second e = refl
accepted-same [] (n ∷ ys) first second e = absurd (omega (arith, e))
accepted-same (m ∷ xs) [] first second e = absurd (omega (arith, e))
accepted-same (m ∷ xs) (n ∷ ys) first second e =
    ap₂ ◌∷◌ (first.0 ∙ sym second.0) (accepted-same xs ys first.1 second.1 (omega (arith, e)))

abbrev Accepts : Opening → Members → List Call → Type 0
Accepts o ms calls = AllAccepted (answers o (records_of ms) calls)

-- one call and more
accepts_cons :
    (o : Opening) (ms : Members) (call : Call) (calls : List Call) →
    Accepts o ms (call ∷ calls) ↔ ((answer o (records_of ms) call ≡ 0) × Accepts o (members_after o ms call) calls)
unfolding answers AllAccepted
accepts_cons o ms call calls = rw (rows-after o ms call) (λ all. (all.0, all.1), λ all. (all.0, all.1))

-- calls after calls
accepts_append :
    (o : Opening) (ms : Members) (calls more : List Call) →
    Accepts o ms (calls ++ more) ↔ (Accepts o ms calls × Accepts o (members_after_all o ms calls) more)
accepts_append o ms calls more =
    rw (answers-append o (records_of ms) calls more, rows_after-all o ms calls) (accepted-append _ _)

-- ---- either order

-- first those of the one list and then those of the other, and the other way round
pub record Swapped (o : Opening) (ms : Members) (first second : List Call) : Type 0 where
  pub accepted : AllAccepted (answers o (records_of ms) (second ++ first))
  pub permuted : Permᴰ (members_after_all o ms (first ++ second)) (members_after_all o ms (second ++ first))

-- a report with a report
reports_commute :
    (o : Opening) (ms : Members) (a b : Call) → FromDifferentSources a b → Accepts o ms (a ∷ b ∷ []) →
    Swapped o ms (a ∷ []) (b ∷ [])
unfolding answers AllAccepted members_after_all
reports_commute o ms (Call.report x at) (Call.farewell _ _) apart all = elim apart [ ]
reports_commute o ms (Call.report x at) (Call.sweep _) apart all = elim apart [ ]
reports_commute o ms (Call.farewell _ _) b apart all = elim apart [ ]
reports_commute o ms (Call.sweep _) b apart all = elim apart [ ]
reports_commute o ms (Call.report x at) (Call.report y then) apart all =
    let behind : answer o (renewed (records_of ms) x) (Call.report y then) ≡ 0 =
    ap (λ (rs : Rows). answer o rs (Call.report y then))
    (sym (after-accepted o (records_of ms) (Call.report x at) all.0))
    ∙ all.1.0 in
    let alone : answer o (records_of ms) (Call.report y then) ≡ 0 =
    second_alone o (records_of ms) x y at then apart all.0 behind in
    let last : answer o (renewed (records_of ms) y) (Call.report x at) ≡ 0 =
    first_behind o (records_of ms) x y at then apart all.0 behind in
    record {
      accepted = (
        alone,
        (
          ap (λ (rs : Rows). answer o rs (Call.report x at))
              (after-accepted o (records_of ms) (Call.report y then) alone)
              ∙ last,
          tt,
        ),
      );
      permuted =
          rw (members_of_two o ms x y at then all.0 behind, members_of_two o ms y x then at alone last)
          (with_permuted (tally_in ms) (renewed_swap x y apart (records_of ms)));
    }

-- a report with a list
report_commutes :
    (o : Opening) (ms : Members) → Unique (records_of ms) → (a : Call) (second : List Call) →
    ((b : Call) → Memᴰ b second → FromDifferentSources a b) → Accepts o ms (a ∷ second) →
    Swapped o ms (a ∷ []) second
unfolding members_after_all
report_commutes o ms u a [] apart all = record { accepted = all; permuted = Permᴰ.refl _ }
report_commutes o ms u a (b ∷ second) apart all =
    let two : _ = (accepts_append o ms (a ∷ b ∷ []) second).0 all in
    let pair : Swapped o ms (a ∷ []) (b ∷ []) =
    reports_commute o ms a b (apart b (Memᴰ.head refl)) two.0 in
    let unique : Unique (records_of (members_after o ms b)) = unique-members o b ms u in
    let later : _ =
    further_permuted o second pair.permuted (unique_members_all o (a ∷ b ∷ []) ms u) in
    let passed : _ = (accepts_cons o ms b (a ∷ [])).0 pair.accepted in
    let onward : Accepts o (members_after o ms b) (a ∷ second) =
    (accepts_append o (members_after o ms b) (a ∷ []) second).1 (passed.1, subst AllAccepted later.0 two.1) in
    let rest : Swapped o (members_after o ms b) (a ∷ []) second =
    report_commutes o (members_after o ms b) unique a second (λ c m. apart c (Memᴰ.tail m)) onward in
    record {
      accepted = (accepts_cons o ms b (second ++ (a ∷ []))).1 (passed.0, rest.accepted);
      permuted = Permᴰ.trans later.1 rest.permuted;
    }

-- a list with a list
pub lists_commute :
    (o : Opening) (ms : Members) → Unique (records_of ms) → (first second : List Call) →
    AllFromDifferentSources first second → Accepts o ms (first ++ second) → Swapped o ms first second
unfolding members_after_all
lists_commute o ms u [] second apart all =
    record {
      accepted = rw (append-nil second) all;
      permuted = rw (append-nil second) (Permᴰ.refl _);
    }
lists_commute o ms u (a ∷ first) second apart all =
    let here : _ = (accepts_cons o ms a (first ++ second)).0 all in
    let unique : Unique (records_of (members_after o ms a)) = unique-members o a ms u in
    let rest : Swapped o (members_after o ms a) first second =
    lists_commute o (members_after o ms a) unique first second (λ c b m. apart c b (Memᴰ.tail m)) here.1 in
    let both : _ = (accepts_append o (members_after o ms a) second first).0 rest.accepted in
    let one : Swapped o ms (a ∷ []) second =
    report_commutes o ms u a second (λ b. apart a b (Memᴰ.head refl))
    ((accepts_cons o ms a second).1 (here.0, both.0)) in
    let later : _ = further_permuted o first one.permuted (unique_members_all o (a ∷ second) ms u) in
    let turned : (second ++ (a ∷ [])) ++ first ≡ second ++ (a ∷ first) = append_assoc second (a ∷ []) first in
    let last :
    Permᴰ (members_after_all o (members_after o ms a) (second ++ first))
    (members_after_all o ms (second ++ (a ∷ first))) =
    rw (members-append o (members_after o ms a) second first, ← turned, members-append o ms (second ++ (a ∷ [])) first)
    later.1 in
    record {
      accepted =
          subst (Accepts o ms) turned
          ((accepts_append o ms (second ++ (a ∷ [])) first).1 (one.accepted, subst AllAccepted later.0 both.1));
      permuted = Permᴰ.trans rest.permuted last;
    }
