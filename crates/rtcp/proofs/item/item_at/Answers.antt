-- The datagram's refusal first, then 9, then the item.
use Prim.Native.Nat.{◌<◌}
use mathlib.Core.Path.{◌≡◌, sym, ap, ◌∙◌}
use lib.ListN.{length, get_or}
use native.Mathlib.Omega.{arith}
use Rattle.std.proofs.Common.{rules}
use Rattle.std.proofs.lemmas.Option.{slice_get-get_or}
use Rattle.std.specs.Prelude.{Some, Ok, Err}
use Rattle.datagram.specs.Datagram.{datagram_items}
use Rattle.datagram.proofs.Laws.Answers.{datagram-passed, datagram-refused}
use Rattle.datagram.proofs.Theorems.{passes_agreed}
use Rattle.rtcp.specs.Answers.{nothing}
use Rattle.rtcp.proofs.Laws.Answers.{item_refused, item-past, item-there}
use Rattle.rtcp.proofs.item.item_at.Goals as goal

pub returns-in_err-count_items : goal.returns-in_err-count_items
returns-in_err-count_items c =
    let a = c.args in
    let r = c.in_err-count_items.field-0.0 in
    let e : c.from_residual.result ≡ Err r = search rules in
    e ∙ sym (item_refused a.reduced a.d.now a.index _ _ (datagram-refused a.reduced a.d.now r (search rules)))

pub returns-then-branch-index : goal.returns-then-branch-index
returns-then-branch-index c =
    let a = c.args in
    let m : _ = datagram-passed a.reduced a.d.now c.in_ok-count_items.field-0 (search rules) in
    sym (item-past a.reduced a.d.now a.index m.0 (omega (arith, m.1)))

pub nth_item-requires : goal.nth_item-requires
nth_item-requires c =
    let m : _ = datagram-passed c.args.reduced c.args.d.now c.in_ok-count_items.field-0 (search rules) in
    passes_agreed c.args.reduced c.args.d.now m.0

pub unwrap-requires : goal.unwrap-requires
unwrap-requires c =
    let items = datagram_items c.args.d.now in
    let m : _ = datagram-passed c.args.reduced c.args.d.now c.in_ok-count_items.field-0 (search rules) in
    let e : c.nth_item.result ≡ Some (get_or items c.args.index nothing) =
    c.nth_item.ensures ∙ slice_get-get_or items c.args.index nothing (omega (arith, m.1)) in
    search rules

pub returns : goal.returns
returns c =
    let a = c.args in
    let items = datagram_items a.d.now in
    let m : _ = datagram-passed a.reduced a.d.now c.in_ok-count_items.field-0 (search rules) in
    let here : a.index < length items = omega (arith, m.1) in
    let e : _ = slice_get-get_or items a.index nothing here in
    let f : c.unwrap.result ≡ get_or items a.index nothing = cc in
    ap Ok f ∙ sym (item-there a.reduced a.d.now a.index m.0 here)
