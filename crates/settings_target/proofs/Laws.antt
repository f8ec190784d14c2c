-- What a packet that no check refuses is known by, and its lateness in one word.
use Prim.Native.Nat.{ℕ, ◌+◌, ◌*◌, ◌^◌, ◌≤◌, ◌<◌}
use mathlib.Core.Bool.{Bool, true, false, not, ◌||◌, true≢false}
use mathlib.Core.Path.{◌≡◌, refl, sym, ap, subst, ◌∙◌}
use lib.Dec.{ltb, eqb}
use lib.IntN.{ℤ, pos, sub_ℕ, ◌-ℤ◌}
use lib.Signed.{lt_z, mag}
use native.Mathlib.Nat.{mul-le-mul}
use native.Mathlib.Omega.{arith}
use borrow.Author.Tests.{ltb-false, le-leb}
use mir.Facts.{to_z-of_z, to_z_pos}
use mir.Syntax.{w64}
use mir.Val.{SFits, to_z, of_z}
use Rattle.std.specs.Prelude.{Result, Ok, Err}
use Rattle.std.specs.Result.{result_and}
use Rattle.refusals.specs.declared.RefusalNumber.{RefusalNumber}
use Rattle.refusals.specs.Refusals.{answer_number}
use Rattle.refusals.proofs.Laws.{number_positive}
use Rattle.idms.specs.declared.Settings.{Settings}
use Rattle.times.specs.Times.{ntp_age, rtp_age, settings_delay, is_far, is_aged}
use Rattle.register.specs.declared.Reading.{Reading}
use Rattle.register.specs.declared.Opening.{Opening}
use Rattle.register.specs.Register.{is_refused_opening, is_other_stream}
use Rattle.register.specs.Choosing.{delay_between, lateness, times_lateness}
use Rattle.register.proofs.Order.{lateness-sub_ℕ}
use Rattle.register.proofs.SettingsCheck.{passed}
use Rattle.integers.proofs.Laws.{lt_z_not_le_z, le_z-sub_ℕ, pos_minus}
use Rattle.playout.specs.PlayoutClock.{is_outside}
use Rattle.settings_target.specs.TargetLateness.{target_is_badly_presented, target_checks, lateness_asked, number_answered, late_answered}

or_false : (s t : Bool) → (s || t) ≡ false → (s ≡ false) × (t ≡ false)
or_false true t e = (e, absurd (true≢false e))
or_false false t e = (refl, e)

-- ---- no check refuses

short-delay :
    (received presented : ℕ) → target_is_badly_presented received presented ≡ false →
    delay_between received presented ≤ 30 * 2 ^ 32
short-delay received presented e = go (eqb presented 0) refl
  where
    d : ℕ
    d = settings_delay received presented

    go : (t : Bool) → eqb presented 0 ≡ t → delay_between received presented ≤ 30 * 2 ^ 32
    go true z = rw z (omega arith)
    go false z =
        let fair : (ltb (30 * 2 ^ 32) d || false || eqb d 0) ≡ false = rw z at e in
        let short : (ltb (30 * 2 ^ 32) d || false) ≡ false = (or_false (ltb (30 * 2 ^ 32) d || false) (eqb d 0) fair).0 in
        rw z (ltb-false (30 * 2 ^ 32) d (or_false (ltb (30 * 2 ^ 32) d) false short).0)

pub record PassedTarget (o : Opening) (s : Settings) (at : Reading) : Type 0 where
  pub rate : o.rate ≤ 192000
  pub near : ntp_age at.ntp s.received ≤ 30 * 2 ^ 32
  pub recent : rtp_age at.rtp s.rtp ≤ 60 * o.rate
  pub short : delay_between s.received s.presented ≤ 30 * 2 ^ 32

pub passed-target : (o : Opening) (s : Settings) (at : Reading) → target_checks o s at ≡ Ok tt → PassedTarget o s at
unfolding target_checks
passed-target o s at e =
    let past12 : _ = passed (is_refused_opening o) RefusalNumber.BadOpening _ e in
    let past13 : _ = passed (is_other_stream o s.group s.media) RefusalNumber.OtherStream _ past12.1 in
    let past15 : _ = passed (is_far at.ntp s.received) RefusalNumber.ReceivedFar _ past13.1 in
    let past16 : _ = passed (is_aged o.rate at.rtp s.rtp) RefusalNumber.RtpAged _ past15.1 in
    let past17 : _ =
    passed (target_is_badly_presented s.received s.presented) RefusalNumber.BadlyPresented _ past16.1 in
    record {
      rate =
          ltb-false 192000 o.rate
          (or_false (eqb o.group 0 || eqb o.group 4294967295 || eqb o.rate 0) (ltb 192000 o.rate)
          past12.0
          ).1;
      near = ltb-false (30 * 2 ^ 32) (ntp_age at.ntp s.received) past15.0;
      recent = ltb-false (60 * o.rate) (rtp_age at.rtp s.rtp) past16.0;
      short = short-delay s.received s.presented past17.0;
    }

-- ---- in one word

-- 60 s of a clock of 192,000 and 30 s of delay
pub later_most :
    (rate delay ticks : ℕ) → rate ≤ 192000 → delay ≤ 30 * 2 ^ 32 → ticks ≤ 60 * rate →
    (rate * delay ≤ 2 ^ 55) × (rate * delay + ticks * 2 ^ 32 ≤ 2 ^ 57)
later_most rate delay ticks h k l =
    let product : rate * delay ≤ 192000 * (30 * 2 ^ 32) = mul-le-mul h k in
    (omega (arith, product), omega (arith, product, h, l))

-- a difference of two numbers up to 2^57
fits_difference : (a b : ℕ) → a ≤ 2 ^ 57 → b ≤ 2 ^ 57 → SFits w64 (sub_ℕ a b)
fits_difference a b h k = record { sfits = go (ltb a b) refl }
  where
    go : (t : Bool) → ltb a b ≡ t → mag (sub_ℕ a b) < 2 ^ 63
    go true e = rw e (omega arith)
    go false e = rw e (omega arith)

inside_difference : (a b : ℕ) → a ≤ 2 ^ 57 → b ≤ 2 ^ 57 → is_outside (sub_ℕ a b) ≡ false
inside_difference a b h k =
    let lower : lt_z (sub_ℕ a b) (sub_ℕ 0 (2 ^ 57)) ≡ false =
    lt_z_not_le_z (sub_ℕ a b) (sub_ℕ 0 (2 ^ 57))
    ∙ ap not (le_z-sub_ℕ 0 (2 ^ 57) a b ∙ le-leb (0 + b) (a + 2 ^ 57) (omega (arith, k))) in
    let upper : lt_z (sub_ℕ (2 ^ 57) 0) (sub_ℕ a b) ≡ false =
    lt_z_not_le_z (sub_ℕ (2 ^ 57) 0) (sub_ℕ a b)
    ∙ ap not (le_z-sub_ℕ a b (2 ^ 57) 0 ∙ le-leb (a + 0) (2 ^ 57 + b) (omega (arith, h))) in
    rw (lower, upper) refl

module _
    (rate delay age ticks : ℕ)
    (rate-most : rate ≤ 192000)
    (short : delay ≤ 30 * 2 ^ 32)
    (near : age ≤ 30 * 2 ^ 32)
    (recent : ticks ≤ 60 * rate)
  where
    later : rate * delay + ticks * 2 ^ 32 ≤ 2 ^ 57
    later = (later_most rate delay ticks rate-most short recent).1

    earlier : rate * age ≤ 2 ^ 57
    earlier = omega (arith, (later_most rate age ticks rate-most near recent).0)

    in_word : pos (rate * delay + ticks * 2 ^ 32) -ℤ pos (rate * age) ≡ lateness rate delay age ticks
    in_word = pos_minus (rate * delay + ticks * 2 ^ 32) (rate * age) ∙ sym (lateness-sub_ℕ rate delay age ticks)

    pub lateness_fits : SFits w64 (lateness rate delay age ticks)
    lateness_fits =
        subst (SFits w64) (sym (lateness-sub_ℕ rate delay age ticks))
        (fits_difference (rate * delay + ticks * 2 ^ 32) (rate * age) later earlier)

    pub lateness_inside : is_outside (lateness rate delay age ticks) ≡ false
    lateness_inside =
        ap is_outside (lateness-sub_ℕ rate delay age ticks)
        ∙ inside_difference (rate * delay + ticks * 2 ^ 32) (rate * age) later earlier

    -- as the code reads the two numbers
    pub lateness-read :
        to_z w64 (rate * delay + ticks * 2 ^ 32) -ℤ to_z w64 (rate * age) ≡ lateness rate delay age ticks
    lateness-read =
        ap (λ (z : ℤ). z -ℤ to_z w64 (rate * age)) (to_z_pos w64 {n = rate * delay + ticks * 2 ^ 32} (omega (arith, later)))
        ∙ ap (λ (z : ℤ). pos (rate * delay + ticks * 2 ^ 32) -ℤ z) (to_z_pos w64 {n = rate * age} (omega (arith, earlier)))
        ∙ in_word

-- ---- the answer, by its checks

pub number_by :
    (checked : Result Unit RefusalNumber) (z : ℤ) → number_answered (result_and checked (Ok z)) ≡ answer_number checked
number_by (Ok passed) z = refl
number_by (Err refused) z = refl

pub late-accepted :
    (checked : Result Unit RefusalNumber) (z : ℤ) → answer_number checked ≡ 0 →
    late_answered (result_and checked (Ok z)) ≡ z
late-accepted (Ok passed) z e = refl
late-accepted (Err refused) z e = absurd (number_positive refused e)

pub late-refused :
    (checked : Result Unit RefusalNumber) (z : ℤ) → (answer_number checked ≡ 0 → ⊥) →
    late_answered (result_and checked (Ok z)) ≡ pos 0
late-refused (Ok passed) z some = absurd (some refl)
late-refused (Err refused) z some = refl

-- the code reads its result back
pub lateness-asked :
    (o : Opening) (s : Settings) (at : Reading) → target_checks o s at ≡ Ok tt → (wait age ticks : ℕ) →
    wait ≡ delay_between s.received s.presented → age ≡ ntp_age at.ntp s.received → ticks ≡ rtp_age at.rtp s.rtp →
    (z : ℤ) → z ≡ lateness o.rate wait age ticks → Ok (to_z w64 (of_z w64 z)) ≡ lateness_asked o s at
lateness-asked o s at none wait age ticks is-wait is-age is-ticks z e =
    let p = passed-target o s at none in
    let is : z ≡ times_lateness o at s.received s.rtp s.presented =
    e
    ∙ ap (λ (w : ℕ). lateness o.rate w age ticks) is-wait
    ∙ ap (λ (a : ℕ). lateness o.rate (delay_between s.received s.presented) a ticks) is-age
    ∙ ap (lateness o.rate (delay_between s.received s.presented) (ntp_age at.ntp s.received)) is-ticks in
    let fits : SFits w64 z = subst (SFits w64) (sym is) (lateness_fits o.rate _ _ _ p.rate p.short p.near p.recent) in
    rw none (ap Ok (to_z-of_z {w = w64} fits ∙ is))
