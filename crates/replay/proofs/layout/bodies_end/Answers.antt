-- The end after i bodies, with what is left to add.
use Prim.Native.Nat.{ℕ, ◌+◌, ◌-◌, ◌≤◌, ◌<◌}
use mathlib.Core.Path.{◌≡◌, sym, ap, ◌∙◌}
use native.Mathlib.Omega.{arith}
use Rattle.replay.specs.Recording.{entry_place, body_length, bodies_end}
use Rattle.replay.proofs.Laws.Layout.{bodies_none, bodies_next}
use Rattle.replay.proofs.layout.bodies_end.Goals as goal

pub loop-i-init : goal.loop-i-init
loop-i-init c =
    let args = c.args in
    let all : args.n - 0 ≡ args.n = omega arith in (
      omega (arith, c.entry_place-end.ensures),
      ap (λ (k : ℕ). bodies_end args.f.now k (entry_place 0) c.entry_place-end.result) all
          ∙ ap (bodies_end args.f.now args.n (entry_place 0)) c.entry_place-end.ensures,
    )

pub loop-i-preserved : goal.loop-i-preserved
loop-i-preserved c =
    let args = c.args in
    let within : c.loop-i.i < args.n = c.loop-i-test.true in
    let length : _ ≡ body_length args.f.now (entry_place c.loop-i.i) =
    c.from-end.ensures ∙ c.read16.ensures ∙ ap (λ (p : ℕ). body_length args.f.now p) c.entry_place.ensures in (
      omega (arith, c.loop-i.invariant.0),
      ap (bodies_end args.f.now (args.n - (c.loop-i.i + 1)) (entry_place (c.loop-i.i + 1)))
          (ap (λ (k : ℕ). c.loop-i.end + k) length)
          ∙ sym (bodies_next args.f.now args.n c.loop-i.i c.loop-i.end within)
          ∙ c.loop-i.invariant.1,
    )

pub returns : goal.returns
returns c =
    let args = c.args in
    let none : args.n - c.loop-i.i ≤ 0 = omega (arith, c.loop-i-test.false) in
    sym (bodies_none args.f.now (args.n - c.loop-i.i) (entry_place c.loop-i.i) c.loop-i.end none) ∙ c.loop-i.invariant.1
