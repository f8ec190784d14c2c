-- The bounds are those of the definition, and the end is held against the file's.
use Prim.Native.Nat.{ℕ}
use mathlib.Core.Path.{ap, ◌∙◌}
use native.Mathlib.Omega.{arith}
use Rattle.replay.specs.Recording.{entry_place, bodies_end}
use Rattle.replay.proofs.Laws.Layout.{bad_bodies}
use Rattle.replay.proofs.layout.is_bad_layout.Goals as goal

pub entry_place-requires : goal.entry_place-requires
entry_place-requires c = omega (arith, c.if-n-gt-ENTRY_LIMIT.false)

pub returns : goal.returns
returns c =
    let count = c.read32-n.ensures in
    let f = c.args.f.now in
    bad_bodies f c.if-f-gt-RECORDING_LIMIT.false c.if-f-lt-HEAD_SIZE.false
    (omega (arith, count, c.if-n-gt-ENTRY_LIMIT.false))
    (omega (arith, count, c.entry_place.ensures, c.if-f-entry_place.false)) _
    (c.bodies_end.ensures ∙ ap (λ (k : ℕ). bodies_end f k (entry_place 0) (entry_place k)) count)
