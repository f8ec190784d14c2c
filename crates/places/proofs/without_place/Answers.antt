-- The bit of a place that is held is taken away.
use mathlib.Core.Bool.{and-eq-true_iff}
use mathlib.Core.Path.{refl, sym}
use native.Mathlib.Omega.{arith}
use borrow.Author.Tests.{ltb-true}
use Rattle.places.specs.Places.{without_place}
use Rattle.places.proofs.Laws.Bits.{bit_fits, held_apart}
use Rattle.places.proofs.without_place.Goals as goal

pub overflow_sub-result : goal.overflow_sub-result
overflow_sub-result c =
    let x = c.args in
    let both : _ = (and-eq-true_iff _ _).0 (sym c.if-is_held.ensures) in
    let fits : _ = bit_fits x.place (ltb-true _ 64 both.0) in
    omega (arith, fits, (held_apart x.place x.word both.1).0)

pub returns-then-is_held : goal.returns-then-is_held
unfolding without_place
returns-then-is_held c =
    let held : _ = sym c.if-is_held.ensures in
    let fits : _ = bit_fits c.args.place (ltb-true _ 64 ((and-eq-true_iff _ _).0 held).0) in
    rw (held, fits) refl

pub returns-else-is_held : goal.returns-else-is_held
unfolding without_place
returns-else-is_held c = rw (sym c.if-is_held.ensures) refl
