-- The items behind the cursor are those behind as many as were passed.
use Prim.Native.Nat.{ℕ, suc, zero, ◌≤◌}
use mathlib.Core.List.{List, [], ◌∷◌}
use mathlib.Core.Path.{◌≡◌, refl, sym, ap, ◌∙◌}
use lib.ListN.{length, drop, length-drop}
use native.Mathlib.Omega.{arith}
use Rattle.std.proofs.Common.{rules}
use Rattle.std.proofs.lemmas.List.{drop-drop}
use Rattle.std.proofs.lemmas.Option.{slice_get_past}
use Rattle.std.specs.List.{slice_get}
use Rattle.std.specs.Prelude.{Some, None}
use Rattle.idms.specs.declared.Placed.{Placed}
use Rattle.datagram.specs.Datagram.{datagram_items}
use Rattle.rtcp.proofs.Laws.Cursor.{start_good, at_item, at_end}
use Rattle.rtcp.proofs.cursor.nth_item.Goals as goal

-- the first behind as many
first : (l rest : List Placed) (i : ℕ) (x : Placed) → drop i l ≡ x ∷ rest → slice_get l i ≡ Some x
first [] rest i x e = absurd (omega (arith, ap length e, length-drop {A = Placed} i []))
first (y ∷ l) rest zero x e = ap (λ (k : List Placed). slice_get k 0) e
first (y ∷ l) rest (suc i) x e = first l rest i x e

-- none is left behind as many
past : (l : List Placed) (k i : ℕ) → drop k l ≡ [] → k ≤ i → slice_get l i ≡ None
past l k i e h = slice_get_past l i (omega (arith, ap length e, length-drop k l))

pub loop-init : goal.loop-init
unfolding datagram_items
loop-init c = rw c.first_cursor-c.ensures (start_good c.args.d.now c.requires, refl)

pub returns-in_err-next : goal.returns-in_err-next
returns-in_err-next c =
    let e : c.from_residual.result ≡ None = search rules in
    e
    ∙ sym
    (past (datagram_items c.args.d.now) c.loop.counter c.args.index
    (c.loop.invariant.1 ∙ at_end c.args.d.now c.loop.c c.loop.invariant.0 (search rules))
    (omega arith))

pub loop-preserved : goal.loop-preserved
loop-preserved c =
    let d = c.args.d.now in
    let m : _ = at_item d c.loop.c c.in_ok-next.field-0-0 c.in_ok-next.next c.loop.invariant.0 (search rules) in
    (m.1, sym (drop-drop 1 c.loop.counter (datagram_items d)) ∙ ap (drop 1) (c.loop.invariant.1 ∙ m.0))

pub returns-in_err-x : goal.returns-in_err-x
returns-in_err-x c =
    let e : c.from_residual-in_err-x.result ≡ None = search rules in
    e
    ∙ sym
    (past (datagram_items c.args.d.now) c.loop.counter c.args.index
    (c.loop.invariant.1 ∙ at_end c.args.d.now c.loop.c c.loop.invariant.0 (search rules))
    (omega arith))

pub returns : goal.returns
returns c =
    let d = c.args.d.now in
    let m : _ = at_item d c.loop.c c.in_ok-x.x c.in_ok-x.field-0-1 c.loop.invariant.0 (search rules) in
    let k : c.loop.counter ≡ c.args.index = omega arith in
    sym (first (datagram_items d) _ c.args.index c.in_ok-x.x (ap (λ (i : ℕ). drop i (datagram_items d)) (sym k) ∙ c.loop.invariant.1 ∙ m.0))
