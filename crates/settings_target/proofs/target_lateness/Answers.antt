-- The lateness of numbers that passed the checks.
use Prim.Native.Nat.{ℕ, ◌*◌, ◌^◌, ◌≤◌}
use mathlib.Core.Path.{sym, subst}
use Rattle.settings_target.proofs.Laws.{passed-target, lateness-asked}
use Rattle.settings_target.proofs.target_lateness.Goals as goal

pub lateness_by-requires : goal.lateness_by-requires
lateness_by-requires c =
    let passed = passed-target _ _ _ (sym c.in_ok-target_number.ensures) in (
      passed.rate,
      subst (λ (n : ℕ). n ≤ 30 * 2 ^ 32) (sym c.delay_between-delay.ensures) passed.short,
      subst (λ (n : ℕ). n ≤ 30 * 2 ^ 32) (sym c.ntp_age-age.ensures) passed.near,
      subst (λ (n : ℕ). n ≤ 60 * c.args.opening.rate) (sym c.rtp_age-ticks.ensures) passed.recent,
    )

pub returns : goal.returns
returns c =
    lateness-asked _ _ _ (sym c.in_ok-target_number.ensures) _ _ _ c.delay_between-delay.ensures c.ntp_age-age.ensures
    c.rtp_age-ticks.ensures
    _
    c.lateness_by.ensures
