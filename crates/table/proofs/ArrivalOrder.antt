-- Order of arrival (document 02, E8): the register's members are a permutation in either order, and stay one behind any
-- further calls; tables that agree with the one and the other differ in places alone.
use Prim.Native.Nat.{ℕ}
use mathlib.Core.Bool.{Bool, true, false, cond}
use mathlib.Core.List.Memᴰ
use mathlib.Core.List.Permᴰ
use mathlib.Core.List.{List, [], ◌∷◌, ◌++◌, Permᴰ}
use mathlib.Core.Path.{◌≡◌, refl, sym, ap, ap₂, subst, ◌∙◌}
use lib.ListN.{length, drop, length-append}
use lib.Seq.{drop_at}
use native.Mathlib.Omega.{arith}
use Rattle.register.specs.declared.Record.{Record}
use Rattle.register.specs.declared.Reading.{Reading}
use Rattle.register.specs.declared.Opening.{Opening}
use Rattle.register.specs.Register.{Call, answers}
use Rattle.register.specs.Tallies.{Members, records_of, members_after_all}
use Rattle.register.specs.ArrivalOrder.{AllAccepted, AllFromDifferentSources}
use Rattle.register.proofs.Rows.{length-permuted, member_permuted}
use Rattle.register.proofs.Permuted.{choice-permuted}
use Rattle.register.proofs.Tallies.{Kept, kept_after_all}
use Rattle.register.proofs.ArrivalOrder.Further.{rows-permuted, further_permuted}
use Rattle.register.proofs.ArrivalOrder.Lists.{accepted-append, accepted-same, Swapped, lists_commute}
use Rattle.table.specs.declared.Table.{Table}
use Rattle.table.specs.Members.{member_count}
use Rattle.table.specs.Calls.{answered}
use Rattle.table.specs.Choose.{chosen_of}
use Rattle.table.specs.History.{answers_from, table_from, Reached}
use Rattle.table.specs.ArrivalOrder.{SameMembers, AlikeAfter, AlikeButPlaces, InEitherOrder, EveryTwoReports}
use Rattle.table.specs.ArrivalOrder.{EveryTwoLists, CallResult, ResultsInEitherOrder}
use Rattle.table.proofs.Agreement.Calls.{Holds, rows-count}
use Rattle.table.proofs.Agreement.Tallies.{TalliesAgree}
use Rattle.table.proofs.Agreement.Theorem.{agreement_after, members-same, chosen-same, row_place, shown_row}
use Rattle.table.proofs.Agreement.Theorem.{reached_holds, reached-tallies, table-append, length-answers_from}

-- a table and members of the register in agreement
pub record InAgreement (o : Opening) (t : Table) (ms : Members) : Type 0 where
  pub holds : Holds o t (records_of ms)
  pub tallies : TalliesAgree t ms
  pub kept : Kept ms

pub reached_agreement :
    (o : Opening) (calls : List Call) (t : Table) (ms : Members) → Reached o calls t ms → InAgreement o t ms
reached_agreement o calls t ms here =
    let both : _ = reached-tallies o calls t ms here in
    record { holds = reached_holds o calls t ms here; tallies = both.0; kept = both.1 }

-- any calls leave them in agreement
pub agreement_kept :
    (o : Opening) (t : Table) (ms : Members) → InAgreement o t ms → (calls : List Call) →
    InAgreement o (table_from t calls) (members_after_all o ms calls)
agreement_kept o t ms here calls =
    let behind : _ = agreement_after o t ms calls here.holds here.tallies in
    record {
      holds = behind.holds;
      tallies = behind.tallies;
      kept = kept_after_all o ms calls here.kept;
    }

-- ---- tables that differ in places alone

module _
    (o : Opening) (t u : Table) (ms ns : Members) (here : InAgreement o t ms) (there : InAgreement o u ns)
    (d : Permᴰ ms ns) where
  same-members : SameMembers t u
  unfolding member_count
  same-members =
      let first : _ = members-same o t ms here.holds here.tallies here.kept in
      let second : _ = members-same o u ns there.holds there.tallies there.kept in
      record {
        permuted = Permᴰ.trans first (Permᴰ.trans d (Permᴰ.symm second));
        count =
            rows-count o t (records_of ms) here.holds
            ∙ length-permuted (rows-permuted d)
            ∙ sym (rows-count o u (records_of ns) there.holds);
        shown = λ m. (
          λ at.
              row_place u ns there.holds.long second m
              (member_permuted d (shown_row t ms here.holds.long first m at)),
          λ at.
              row_place t ms here.holds.long first m
              (member_permuted (Permᴰ.symm d) (shown_row u ns there.holds.long second m at)),
        );
      }

  same-choice : (at : Reading) → (chosen_of t at).choice ≡ (chosen_of u at).choice
  same-choice at =
      chosen-same o t (records_of ms) here.holds at
      ∙ choice-permuted o at (rows-permuted d) here.holds.unique
      ∙ sym (chosen-same o u (records_of ns) there.holds at)

pub alike_but_places :
    (o : Opening) (t u : Table) (ms ns : Members) → InAgreement o t ms → InAgreement o u ns → Permᴰ ms ns →
    AlikeButPlaces t u
alike_but_places o t u ms ns here there d further =
    let later : _ = further_permuted o further d here.holds.unique in
    let first : _ = agreement_kept o t ms here further in
    let second : _ = agreement_kept o u ns there further in
    record {
      answers =
          (agreement_after o t ms further here.holds here.tallies).answers-same
          ∙ later.0
          ∙ sym (agreement_after o u ns further there.holds there.tallies).answers-same;
      members = same-members o _ _ _ _ first second later.1;
      choices = same-choice o _ _ _ _ first second later.1;
    }

-- ---- the order of arrival

pub lists_in_either_order :
    (o : Opening) (t : Table) (ms : Members) → InAgreement o t ms → (first second : List Call) →
    AllFromDifferentSources first second → AllAccepted (answers_from t (first ++ second)) → InEitherOrder t first second
lists_in_either_order o t ms here first second apart all =
    let same : (calls : List Call) → answers_from t calls ≡ answers o (records_of ms) calls =
    (λ calls. (agreement_after o t ms calls here.holds here.tallies).answers-same) in
    let swapped : Swapped o ms first second =
    lists_commute o ms here.holds.unique first second apart (subst AllAccepted (same (first ++ second)) all) in
    record {
      accepted = subst AllAccepted (sym (same (second ++ first))) swapped.accepted;
      alike =
          alike_but_places o _ _ _ _
          (agreement_kept o t ms here (first ++ second))
          (agreement_kept o t ms here (second ++ first))
          swapped.permuted;
    }

pub every_two_lists : EveryTwoLists
every_two_lists o calls t ms reached first second apart all =
    lists_in_either_order o t ms (reached_agreement o calls t ms reached) first second apart all

-- two reports are two lists of one
pub two_sources :
    (x y : Record) (at then : Reading) → (x.source ≡ y.source → ⊥) →
    AllFromDifferentSources (Call.report x at ∷ []) (Call.report y then ∷ [])
two_sources x y at then apart a b m n =
    rw (Memᴰ.eq_of_singleton m, Memᴰ.eq_of_singleton n) apart

pub every_two_reports : EveryTwoReports
every_two_reports o calls t ms reached x y at then apart all =
    every_two_lists o calls t ms reached (Call.report x at ∷ []) (Call.report y then ∷ [])
    (two_sources x y at then apart) all

-- ---- calls that bring whole lists

answers_from-append :
    (t : Table) (calls more : List Call) →
    answers_from t (calls ++ more) ≡ answers_from t calls ++ answers_from (table_from t calls) more
unfolding answers_from table_from
answers_from-append t [] more = refl
answers_from-append t (call ∷ calls) more =
    ap (λ (ns : List ℕ). (answered t call).number ∷ ns) (answers_from-append (answered t call).table calls more)

-- calls that are all accepted on two tables
same_numbers :
    (t u : Table) (calls : List Call) → AllAccepted (answers_from t calls) → AllAccepted (answers_from u calls) →
    answers_from t calls ≡ answers_from u calls
same_numbers t u calls first second =
    accepted-same _ _ first second (length-answers_from t calls ∙ sym (length-answers_from u calls))

pub alike_same : (t : Table) → AlikeButPlaces t t
alike_same t further =
    record {
      answers = refl;
      members = record { permuted = Permᴰ.refl _; count = refl; shown = λ m. (λ at. at, λ at. at) };
      choices = λ at. refl;
    }

-- what such a call gives is what its calls do, where they are made, and it shows what they answered
pub record Brings {A : Type 0} (gives : Table → CallResult A) (calls : List Call) : Type 0 where
  pub made : Bool
  pub show : List ℕ → A
  pub seen : (t : Table) → (gives t).seen ≡ show (answers_from t calls)
  pub table : (t : Table) → (gives t).table ≡ cond made (table_from t calls) t

module _
    {A B : Type 0} (o : Opening) (t : Table) (ms : Members) (here : InAgreement o t ms)
    (one : Table → CallResult A) (other : Table → CallResult B) (first second : List Call)
    (brings : Brings one first) (also : Brings other second)
    (apart : AllFromDifferentSources first second) (all : AllAccepted (answers_from t (first ++ second))) where
  either : InEitherOrder t first second
  either = lists_in_either_order o t ms here first second apart all

  in_turn_lem : AllAccepted (answers_from t first) × AllAccepted (answers_from (table_from t first) second)
  in_turn_lem = (accepted-append _ _).0 (subst AllAccepted (answers_from-append t first second) all)

  turned : AllAccepted (answers_from t second) × AllAccepted (answers_from (table_from t second) first)
  turned = (accepted-append _ _).0 (subst AllAccepted (answers_from-append t second first) either.accepted)

  numbers-of_one : (b : Bool) → answers_from t first ≡ answers_from (cond b (table_from t second) t) first
  numbers-of_one true = same_numbers t (table_from t second) first in_turn_lem.0 turned.1
  numbers-of_one false = refl

  numbers-of_other : (b : Bool) → answers_from (cond b (table_from t first) t) second ≡ answers_from t second
  numbers-of_other true = same_numbers (table_from t first) t second in_turn_lem.1 turned.0
  numbers-of_other false = refl

  tables_alike :
      (a b : Bool) →
      AlikeButPlaces (cond b (table_from (cond a (table_from t first) t) second) (cond a (table_from t first) t))
      (cond a (table_from (cond b (table_from t second) t) first) (cond b (table_from t second) t))
  tables_alike true true = rw (← table-append t first second, ← table-append t second first) either.alike
  tables_alike true false = alike_same (table_from t first)
  tables_alike false true = alike_same (table_from t second)
  tables_alike false false = alike_same t

  pub results_in_either_order : ResultsInEitherOrder t one other
  results_in_either_order =
      let left-by-one : _ = brings.table t in
      let left-by-other : _ = also.table t in
      record {
        of_one =
            brings.seen t
            ∙ ap brings.show
            (numbers-of_one also.made ∙ ap (λ (u : Table). answers_from u first) (sym left-by-other))
            ∙ sym (brings.seen (other t).table);
        of_other =
            also.seen (one t).table
            ∙ ap also.show
            (ap (λ (u : Table). answers_from u second) left-by-one ∙ numbers-of_other brings.made)
            ∙ sym (also.seen t);
        alike =
            rw (also.table (one t).table, left-by-one, brings.table (other t).table, left-by-other)
            (tables_alike brings.made also.made);
      }

-- ---- between other calls

-- tables that differ in places alone go on so
alike_further :
    (t u : Table) → AlikeButPlaces t u → (calls : List Call) → AlikeButPlaces (table_from t calls) (table_from u calls)
alike_further t u alike calls further =
    let later : AlikeAfter t u (calls ++ further) = alike (calls ++ further) in
    let behind : (v : Table) → drop (length calls) (answers_from v (calls ++ further))
    ≡ answers_from (table_from v calls) further =
    (λ v.
    ap (drop (length calls)) (answers_from-append v calls further)
    ∙ drop_at (answers_from v calls) _ (length calls) (length-answers_from v calls)) in
    record {
      answers = sym (behind t) ∙ ap (drop (length calls)) later.answers ∙ behind u;
      members = rw (← table-append t calls further, ← table-append u calls further) later.members;
      choices = rw (← table-append t calls further, ← table-append u calls further) later.choices;
    }

-- two lists that are accepted between other calls
pub exchanged_between :
    (o : Opening) (t : Table) (ms : Members) → InAgreement o t ms → (before first second behind : List Call) →
    AllFromDifferentSources first second → AllAccepted (answers_from (table_from t before) (first ++ second)) →
    let calls = before ++ ((first ++ second) ++ behind) in
    let exchanged = before ++ ((second ++ first) ++ behind) in
    (answers_from t calls ≡ answers_from t exchanged) × AlikeButPlaces (table_from t calls) (table_from t exchanged)
exchanged_between o t ms here before first second behind apart all =
    let u : Table = table_from t before in
    let either : InEitherOrder u first second =
    lists_in_either_order o u (members_after_all o ms before) (agreement_kept o t ms here before) first second apart
    all in
    let same : answers_from u (first ++ second) ≡ answers_from u (second ++ first) =
    accepted-same _ _ all either.accepted
    (omega (
      arith,
      length-answers_from u (first ++ second),
      length-answers_from u (second ++ first),
      length-append first second,
      length-append second first,
    )) in (
      answers_from-append t before _
          ∙ ap (λ (ns : List ℕ). answers_from t before ++ ns)
          (answers_from-append u (first ++ second) behind
          ∙ ap₂ ◌++◌ same (either.alike behind).answers
          ∙ sym (answers_from-append u (second ++ first) behind))
          ∙ sym (answers_from-append t before _),
      rw (
        table-append t before ((first ++ second) ++ behind),
        table-append t before ((second ++ first) ++ behind),
        table-append u (first ++ second) behind,
        table-append u (second ++ first) behind,
      )
          (alike_further _ _ either.alike behind),
    )
