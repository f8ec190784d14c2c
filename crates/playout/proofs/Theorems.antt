-- Document 02, E10: what each call answers, what a tick does, and when the target is reached.
use Prim.Native.Nat.{ℕ, zero, suc, ◌+◌, ◌-◌, ◌*◌, ◌/◌, ◌^◌, ◌≤◌, ◌<◌}
use mathlib.Core.Bool.{Bool, true, false, cond, ◌||◌, false≢true}
use mathlib.Core.List.{List, ◌∷◌}
use mathlib.Core.Logic.{◌⊎◌, inl, inr, ◌↔◌}
use mathlib.Core.Path.{◌≡◌, refl, sym, ap, subst, ◌∙◌}
use lib.IntN.{ℤ, pos, nat_abs}
use lib.ListN.{replicate}
use lib.Dec.{eqb}
use lib.Signed.{lt_z, ◌≤ℤ◌, ◌<ℤ◌, ≤ℤ_refl}
use native.Mathlib.Nat.{div-mul-le_self, lt-div-mul-add, mul-le-mul_right, suc-mul}
use native.Mathlib.Omega.{arith}
use borrow.Author.Tests.{leb-true, le-leb, eqb-true, eqb-false}
use Rattle.refusals.specs.declared.RefusalNumber.{RefusalNumber}
use Rattle.refusals.specs.Refusals.{answer_number, bad_step, outside_range}
use Rattle.std.specs.Prelude.{Result, Ok, Err}
use Rattle.integers.proofs.Laws.{<ℤ-lt_z, lt_z-<ℤ, ≤ℤ-le_z, le_z-≤ℤ}
use Rattle.playout.specs.declared.PlayoutClock.{PlayoutClock}
use Rattle.playout.specs.PlayoutClock.{ClockCall, is_bad_step, is_outside, clock_checks, with_target}
use Rattle.playout.specs.PlayoutClock.{clock_answer, clock_after, clock_answers, clock_after_all}
use Rattle.playout.specs.OnTarget.{judged, BadStep, Outside, OutsideRange, EveryClockCall}
use Rattle.playout.specs.OnTarget.{apart, Between, TickRules, EveryTick, ticks, ticks_to, SetAndTicked, EverySet}
use Rattle.playout.proofs.Laws.{after-accepted, after-refused, tick_record}
use Rattle.playout.proofs.Range.{at, clock_at, le_at, number_at, Taken, taken, next_of, towards-at, next_most}
use Rattle.playout.proofs.Range.{next_up, next_down, gap, next_gap, gap_at, at_same}

-- ---- refusals

either : {a b c d : ℤ} → ((lt_z a b || lt_z c d) ≡ true) ↔ ((a <ℤ b) ⊎ (c <ℤ d))
either {a} {b} {c} {d} = (said (lt_z a b) refl, holds)
  where
    said : (t : Bool) → lt_z a b ≡ t → (lt_z a b || lt_z c d) ≡ true → (a <ℤ b) ⊎ (c <ℤ d)
    said true e h = inl (lt_z-<ℤ e)
    said false e h = inr (lt_z-<ℤ (rw e at h))

    holds : (a <ℤ b) ⊎ (c <ℤ d) → (lt_z a b || lt_z c d) ≡ true
    holds (inl h) = rw (<ℤ-lt_z h) refl
    holds (inr h) = go (lt_z a b) refl
      where
        go : (t : Bool) → lt_z a b ≡ t → (lt_z a b || lt_z c d) ≡ true
        go true e = rw e refl
        go false e = rw e (<ℤ-lt_z h)

step_test : (step : ℤ) → (is_bad_step step ≡ true) ↔ BadStep step
step_test step = either

pub outside_test : (value : ℤ) → (is_outside value ≡ true) ↔ Outside value
outside_test value = either

range_test : (c : PlayoutClock) → ((is_outside c.current || is_outside c.target) ≡ true) ↔ OutsideRange c
range_test c = (said (is_outside c.current) refl, holds)
  where
    said :
        (t : Bool) → is_outside c.current ≡ t → (is_outside c.current || is_outside c.target) ≡ true →
        OutsideRange c
    said true e h = inl ((outside_test c.current).0 e)
    said false e h = inr ((outside_test c.target).0 (rw e at h))

    holds : OutsideRange c → (is_outside c.current || is_outside c.target) ≡ true
    holds (inl h) = rw ((outside_test c.current).1 h) refl
    holds (inr h) = go (is_outside c.current) refl
      where
        go : (t : Bool) → is_outside c.current ≡ t → (is_outside c.current || is_outside c.target) ≡ true
        go true e = rw e refl
        go false e = rw e ((outside_test c.target).1 h)

-- 26 where the first test holds, else 27 where the second does, else none
abbrev first_of_two : (p q : Bool) → Result Unit RefusalNumber
first_of_two p q = cond p (Err RefusalNumber.BadStep) (cond q (Err RefusalNumber.OutsideRange) (Ok tt))

first_of_two_lem :
    {P Q : Type 0} (p q : Bool) → (p ≡ true) ↔ P → (q ≡ true) ↔ Q →
    ((answer_number (first_of_two p q) ≡ bad_step) ↔ P)
    × ((answer_number (first_of_two p q) ≡ outside_range) ↔ ((P → ⊥) × Q))
    × ((answer_number (first_of_two p q) ≡ 0) ↔ ((P → ⊥) × (Q → ⊥)))
first_of_two_lem true q is-p is-q = (
  (λ e. is-p.0 refl, λ h. refl),
  (λ e. absurd (omega (arith, e)), λ h. absurd (h.0 (is-p.0 refl))),
  (λ e. absurd (omega (arith, e)), λ h. absurd (h.0 (is-p.0 refl))),
)
first_of_two_lem false true is-p is-q = (
  (λ e. absurd (omega (arith, e)), λ h. absurd (false≢true (is-p.1 h))),
  (λ e. ((λ h. false≢true (is-p.1 h)), is-q.0 refl), λ h. refl),
  (λ e. absurd (omega (arith, e)), λ h. absurd (h.1 (is-q.0 refl))),
)
first_of_two_lem false false is-p is-q = (
  (λ e. absurd (omega (arith, e)), λ h. absurd (false≢true (is-p.1 h))),
  (λ e. absurd (omega (arith, e)), λ h. absurd (false≢true (is-q.1 h.1))),
  (λ e. ((λ h. false≢true (is-p.1 h)), λ h. false≢true (is-q.1 h)), λ h. refl),
)

checks_mean :
    (c : PlayoutClock) →
    ((answer_number (clock_checks c) ≡ bad_step) ↔ BadStep c.step)
    × ((answer_number (clock_checks c) ≡ outside_range) ↔ ((BadStep c.step → ⊥) × OutsideRange c))
    × ((answer_number (clock_checks c) ≡ 0) ↔ ((BadStep c.step → ⊥) × (OutsideRange c → ⊥)))
unfolding clock_checks
checks_mean c =
    first_of_two_lem (is_bad_step c.step) (is_outside c.current || is_outside c.target) (step_test c.step) (range_test c)

answer-judged : (c : PlayoutClock) (call : ClockCall) → clock_answer c call ≡ answer_number (clock_checks (judged c call))
answer-judged c ClockCall.tick = refl
answer-judged c (ClockCall.set target) = refl

pub every_clock_call : EveryClockCall
every_clock_call c call =
    let means = checks_mean (judged c call) in
    let same = answer-judged c call in
    record {
      bad_step_refused = subst (λ (n : ℕ). (n ≡ bad_step) ↔ BadStep (judged c call).step) (sym same) means.0;
      outside_range_refused =
          subst (λ (n : ℕ). (n ≡ outside_range) ↔ ((BadStep (judged c call).step → ⊥) × OutsideRange (judged c call)))
          (sym same)
          means.1;
      accepted =
          subst (λ (n : ℕ). (n ≡ 0) ↔ ((BadStep (judged c call).step → ⊥) × (OutsideRange (judged c call) → ⊥)))
          (sym same)
          means.2;
      unchanged = after-refused c call;
    }

-- ---- a tick

-- target and step, accepted or refused
kept :
    (c : PlayoutClock) →
    ((clock_after c ClockCall.tick).target ≡ c.target) × ((clock_after c ClockCall.tick).step ≡ c.step)
kept c = (
  sym (ap (λ (d : PlayoutClock). d.target) (tick_record c)),
  sym (ap (λ (d : PlayoutClock). d.step) (tick_record c)),
)

le_at_≤ : (x y : ℕ) → at x ≤ℤ at y → x ≤ y
le_at_≤ x y h = leb-true x y (sym (le_at x y) ∙ ≤ℤ-le_z h)

≤_le_at : (x y : ℕ) → x ≤ y → at x ≤ℤ at y
≤_le_at x y h = le_z-≤ℤ (le_at x y ∙ le-leb x y h)

module _ (a g s : ℕ) (a_most : a ≤ 2 ^ 58) (g_most : g ≤ 2 ^ 58) (s_least : 0 < s) (s_most : s ≤ 2 ^ 57) where
  tick-at : clock_after (clock_at a g s) ClockCall.tick ≡ clock_at (next_of a g s) g s
  tick-at =
      after-accepted (clock_at a g s) ClockCall.tick (number_at a g s a_most g_most s_least s_most)
      ∙ λ i. record { current = towards-at a g s i; target = at g; step = pos s }

  current_at : at (next_of a g s) ≡ (clock_after (clock_at a g s) ClockCall.tick).current
  current_at = sym (ap (λ (d : PlayoutClock). d.current) tick-at)

  gap_next : apart (at g) (at (next_of a g s)) ≡ apart (at g) (at a) - s
  gap_next = gap_at (next_of a g s) g ∙ next_gap a g s ∙ ap (λ (n : ℕ). n - s) (sym (gap_at a g))

  rules_at : TickRules (clock_at a g s)
  rules_at =
      record {
        moved = λ e. subst (λ (z : ℤ). apart (at g) z ≡ apart (at g) (at a) - s) current_at gap_next;
        not_past =
            subst (λ (z : ℤ). Between (at a) (at g) z) current_at (
              (λ h.
                  let both = next_up a g s (le_at_≤ a g h) in
                  (≤_le_at a (next_of a g s) both.0, ≤_le_at (next_of a g s) g both.1)),
              λ h.
                  let both = next_down a g s (le_at_≤ g a h) in
                  (≤_le_at g (next_of a g s) both.0, ≤_le_at (next_of a g s) a both.1),
            );
        no_farther = subst (λ (z : ℤ). apart (at g) z ≤ apart (at g) (at a)) current_at (omega (arith, gap_next));
        target_kept = (kept (clock_at a g s)).0;
        step_kept = (kept (clock_at a g s)).1;
      }

-- a refused tick leaves the record
rules_refused : (c : PlayoutClock) → (clock_answer c ClockCall.tick ≡ 0 → ⊥) → TickRules c
rules_refused c some =
    let same : c.current ≡ (clock_after c ClockCall.tick).current =
    sym (ap (λ (d : PlayoutClock). d.current) (after-refused c ClockCall.tick some)) in
    record {
      moved = λ e. absurd (some e);
      not_past =
          subst (λ (z : ℤ). Between c.current c.target z) same
          ((λ h. (≤ℤ_refl c.current, h)), λ h. (h, ≤ℤ_refl c.current));
      no_farther = subst (λ (z : ℤ). apart c.target z ≤ apart c.target c.current) same (omega arith);
      target_kept = (kept c).0;
      step_kept = (kept c).1;
    }

pub every_tick : EveryTick
every_tick c = go (eqb (clock_answer c ClockCall.tick) 0) refl
  where
    go : (t : Bool) → eqb (clock_answer c ClockCall.tick) 0 ≡ t → TickRules c
    go true e =
        let k = taken c (eqb-true (clock_answer c ClockCall.tick) 0 e) in
        subst TickRules (sym k.is)
        (rules_at k.a k.g k.s k.a_most k.g_most k.s_least k.s_most)
    go false e = rules_refused c (eqb-false (clock_answer c ClockCall.tick) 0 e)

-- ---- ticks in a row

none_apart : (g : ℕ) → gap g g ≡ 0
none_apart g = omega arith

less_twice : (d s k : ℕ) → d - s - k * s ≡ d - suc k * s
less_twice d s k = let e : suc k * s ≡ k * s + s = suc-mul k s in omega (arith, e)

-- where m ticks lead from a
pub record Ran (a g s m : ℕ) : Type 0 where
  pub b : ℕ
  pub b_most : b ≤ 2 ^ 58
  pub left : gap b g ≡ gap a g - m * s
  pub is : clock_after_all (clock_at a g s) (ticks m) ≡ clock_at b g s
  pub accepted : clock_answers (clock_at a g s) (ticks m) ≡ replicate m 0

module _ (g s : ℕ) (g_most : g ≤ 2 ^ 58) (s_least : 0 < s) (s_most : s ≤ 2 ^ 57) where
  ran : (m a : ℕ) → a ≤ 2 ^ 58 → Ran a g s m
  unfolding clock_after_all clock_answers
  ran zero a h = record { b = a; b_most = h; left = omega arith; is = refl; accepted = refl }
  ran (suc m) a h =
      let once = tick-at a g s h g_most s_least s_most in
      let rest = ran m (next_of a g s) (next_most a g s h g_most) in
      record {
        b = rest.b;
        b_most = rest.b_most;
        left =
            rest.left ∙ ap (λ (n : ℕ). n - m * s) (next_gap a g s) ∙ less_twice (gap a g) s m;
        is = ap (λ (d : PlayoutClock). clock_after_all d (ticks m)) once ∙ rest.is;
        accepted =
            ap (λ (n : ℕ). n ∷ clock_answers (clock_after (clock_at a g s) ClockCall.tick) (ticks m))
            (number_at a g s h g_most s_least s_most)
            ∙ ap (λ (d : PlayoutClock). 0 ∷ clock_answers d (ticks m)) once
            ∙ ap (λ (l : List ℕ). 0 ∷ l) rest.accepted;
      }

-- ---- the division

enough : (d s : ℕ) → 0 < s → d ≤ (d + (s - 1)) / s * s
enough d s h =
    let l : d + (s - 1) < (d + (s - 1)) / s * s + s = lt-div-mul-add h in
    omega (arith, l)

too_few : (d s m : ℕ) → 0 < s → m < (d + (s - 1)) / s → m * s < d
too_few d s m h less =
    let l : (d + (s - 1)) / s * s ≤ d + (s - 1) = div-mul-le_self (d + (s - 1)) s in
    let k : suc m * s ≤ (d + (s - 1)) / s * s = mul-le-mul_right s less in
    let e : suc m * s ≡ m * s + s = suc-mul m s in
    omega (arith, l, k, e)

-- ---- a target that is set

module _ (c : PlayoutClock) (target : ℤ) (none : clock_answer c (ClockCall.set target) ≡ 0) (m : ℕ) where
  abbrev start : Taken (with_target c target)
  start = taken (with_target c target) none

  abbrev d : ℕ
  d = gap start.a start.g

  run : Ran start.a start.g start.s m
  run =
      ran start.g start.s start.g_most start.s_least start.s_most m start.a start.a_most

  set_at : clock_after c (ClockCall.set target) ≡ clock_at start.a start.g start.s
  set_at = after-accepted c (ClockCall.set target) none ∙ start.is

  current_is : c.current ≡ at start.a
  current_is = ap (λ (k : PlayoutClock). k.current) start.is

  target_is : target ≡ at start.g
  target_is = ap (λ (k : PlayoutClock). k.target) start.is

  step_is : c.step ≡ pos start.s
  step_is = ap (λ (k : PlayoutClock). k.step) start.is

  ticks_is : ticks_to c target ≡ (d + (start.s - 1)) / start.s
  ticks_is =
      ap (λ (z : ℤ). (apart target c.current + (nat_abs z - 1)) / nat_abs z) step_is
      ∙ ap (λ (n : ℕ). (n + (start.s - 1)) / start.s)
      (ap (λ (z : ℤ). apart z c.current) target_is
      ∙ ap (λ (z : ℤ). apart (at start.g) z) current_is
      ∙ gap_at start.a start.g)

  after_is :
      clock_after_all c (ClockCall.set target ∷ ticks m) ≡ clock_at run.b start.g start.s
  unfolding clock_after_all
  after_is = ap (λ (k : PlayoutClock). clock_after_all k (ticks m)) set_at ∙ run.is

  set_and_ticked : SetAndTicked c target m
  unfolding clock_answers
  set_and_ticked =
      record {
        accepted =
            ap (λ (n : ℕ). n ∷ clock_answers (clock_after c (ClockCall.set target)) (ticks m)) none
            ∙ ap (λ (k : PlayoutClock). 0 ∷ clock_answers k (ticks m)) set_at
            ∙ ap (λ (l : List ℕ). 0 ∷ l) run.accepted;
        target_kept = ap (λ (k : PlayoutClock). k.target) after_is ∙ sym target_is;
        step_kept = ap (λ (k : PlayoutClock). k.step) after_is ∙ sym step_is;
        on_target = λ n.
            let all : (d + (start.s - 1)) / start.s ≤ m = subst (λ (k : ℕ). k ≤ m) ticks_is n in
            let most : (d + (start.s - 1)) / start.s * start.s ≤ m * start.s = mul-le-mul_right start.s all in
            let closed : gap run.b start.g ≡ 0 =
            omega (arith, run.left, enough d start.s start.s_least, most) in
            let same : run.b ≡ start.g = omega (arith, closed) in
            ap (λ (k : PlayoutClock). k.current) after_is ∙ ap at same ∙ sym target_is;
        not_sooner = λ n e.
            let few : m * start.s < d = too_few d start.s m start.s_least (subst (λ (k : ℕ). m < k) ticks_is n) in
            let same : run.b ≡ start.g =
            at_same run.b start.g (sym (ap (λ (k : PlayoutClock). k.current) after_is) ∙ e ∙ target_is) in
            let closed : gap run.b start.g ≡ 0 = ap (λ (n : ℕ). gap n start.g) same ∙ none_apart start.g in
            omega (arith, run.left, few, closed);
      }

pub every_set : EverySet
every_set c target e = (after-accepted c (ClockCall.set target) e, set_and_ticked c target e)
