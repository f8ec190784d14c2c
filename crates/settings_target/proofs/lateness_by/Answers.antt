-- Both products stay far below 2^63, and their difference is the lateness, by the law `lateness-read`.
use mathlib.Core.Path.{sym, ap, subst, ◌∙◌}
use lib.IntN.{ℤ}
use mir.Facts.{to_z-of_z}
use mir.Syntax.{w64}
use mir.Val.{SFits, to_z, of_z}
use native.Mathlib.Omega.{arith}
use Rattle.settings_target.proofs.Laws.{later_most, lateness_fits, lateness-read}
use Rattle.settings_target.proofs.lateness_by.Goals as goal

pub overflow_mul-later : goal.overflow_mul-later
overflow_mul-later c =
    let most : _ = later_most c.args.rate c.args.delay c.args.ticks c.requires.0 c.requires.1 c.requires.3 in
    record { fits = omega (arith, most.0) }

pub overflow_add-later : goal.overflow_add-later
overflow_add-later c =
    let most : _ = later_most c.args.rate c.args.delay c.args.ticks c.requires.0 c.requires.1 c.requires.3 in
    record { fits = omega (arith, most.1) }

pub overflow_mul-earlier : goal.overflow_mul-earlier
overflow_mul-earlier c =
    let most : _ = later_most c.args.rate c.args.age c.args.ticks c.requires.0 c.requires.2 c.requires.3 in
    record { fits = omega (arith, most.0) }

pub overflow_cast-result : goal.overflow_cast-result
overflow_cast-result c =
    let most : _ = later_most c.args.rate c.args.delay c.args.ticks c.requires.0 c.requires.1 c.requires.3 in
    record { sfits = omega (arith, most.1) }

pub overflow_cast-result-2 : goal.overflow_cast-result-2
overflow_cast-result-2 c =
    let most : _ = later_most c.args.rate c.args.age c.args.ticks c.requires.0 c.requires.2 c.requires.3 in
    record { sfits = omega (arith, most.0) }

pub overflow_sub-result : goal.overflow_sub-result
overflow_sub-result c =
    let a = c.args in
    let bound = c.requires in
    subst (SFits w64)
    (sym (lateness-read a.rate a.delay a.age a.ticks bound.0 bound.1 bound.2 bound.3))
    (lateness_fits a.rate a.delay a.age a.ticks bound.0 bound.1 bound.2 bound.3)

pub returns : goal.returns
returns c =
    let a = c.args in
    let bound = c.requires in
    ap (λ (z : ℤ). to_z w64 (of_z w64 z))
    (lateness-read a.rate a.delay a.age a.ticks bound.0 bound.1 bound.2 bound.3)
    ∙ to_z-of_z {w = w64}
    (lateness_fits a.rate a.delay a.age a.ticks bound.0 bound.1 bound.2 bound.3)
