-- Each word by the bit that is set in it.
use Prim.Native.Nat.{◌≤◌, ◌<◌}
use mathlib.Core.Bool.{Bool, not, ◌&&◌, and_assoc}
use mathlib.Core.Path.{◌≡◌, refl, ap, ◌∙◌}
use lib.ListN.{length, get_or}
use native.Mathlib.Omega.{arith}
use Rattle.register.specs.Register.{presents, fresh_at}
use Rattle.register.specs.Tallies.{records_of}
use Rattle.register.proofs.Tallies.{length-rows}
use Rattle.places.specs.Places.{is_free}
use Rattle.choosing.specs.Marked.{nowhere}
use Rattle.choosing.specs.Choose.{at_rate}
use Rattle.choosing.proofs.Laws.Marked.{row_at, kept_step, kept_end}
use Rattle.choosing.proofs.marks_at.Goals as goal
use Rattle.choosing.proofs.marks_at.Goals.{then-yes, else-yes}

pub loop-i-preserved : goal.loop-i-preserved
loop-i-preserved c =
    let ms = c.args.members in
    let within : c.loop-i.i < length (records_of ms) = omega (arith, c.well_formed, length-rows ms) in
    let row = get_or (records_of ms) c.loop-i.i nowhere in
    let fresh : Bool = fresh_at (at_rate c.args.rate) c.args.at row in
    let marked : c.is_marked_fresh-yes.result ≡ (not (is_free c.loop-i.word) && fresh) =
    rw (← row_at ms c.loop-i.i) at c.is_marked_fresh-yes.ensures in
    let both : c.if-yes.with_bit ≡ (c.is_marked_fresh-yes.result && presents row) =
    rw (row_at ms c.loop-i.i)
    (elim c.if-yes.branch [
      | then-yes w ↦ rw w.if-yes.true w.with_bit-is
      | else-yes w ↦ rw w.if-yes.false (w.with_bit-is ∙ w.if-yes.false)
    ]) in
    let presenting : _ =
    both
    ∙ ap (λ (t : Bool). t && presents row) marked
    ∙ and_assoc (not (is_free c.loop-i.word)) fresh (presents row) in (
      kept_step _ within c.loop-i.invariant.0 marked c.with_bit-fresh.ensures,
      kept_step _ within c.loop-i.invariant.1 presenting c.with_bit-presenting.ensures,
    )

pub returns : goal.returns
returns c =
    let ms = c.args.members in
    let all : length (records_of ms) ≤ c.loop-i.i = omega (arith, c.well_formed, length-rows ms) in
    rw (kept_end all c.loop-i.invariant.0, kept_end all c.loop-i.invariant.1) refl
