-- The bit of a place below 64 is or-ed to the word, by the law `or_with_place`.
use mathlib.Core.Path.{refl}
use borrow.Author.Tests.{le-ltb}
use Rattle.places.specs.Places.{with_place}
use Rattle.places.proofs.Laws.Bits.{or_with_place}
use Rattle.places.proofs.with_place.Goals as goal

pub returns-then-place-lt-PLACES : goal.returns-then-place-lt-PLACES
returns-then-place-lt-PLACES c = or_with_place c.args.word c.args.place c.if-place-lt-PLACES.true

pub returns-else-place-lt-PLACES : goal.returns-else-place-lt-PLACES
unfolding with_place
returns-else-place-lt-PLACES c = rw (le-ltb _ 64 c.if-place-lt-PLACES.false) refl
