-- The bit that the shift brings down is the definition's, for a place below 64.
use mathlib.Core.Path.{refl}
use borrow.Author.Tests.{lt-ltb}
use Rattle.places.specs.Places.{is_held}
use Rattle.places.proofs.is_held.Goals as goal

pub returns-then-place-lt-PLACES : goal.returns-then-place-lt-PLACES
unfolding is_held
returns-then-place-lt-PLACES c = rw (lt-ltb _ 64 c.if-place-lt-PLACES.true) refl
