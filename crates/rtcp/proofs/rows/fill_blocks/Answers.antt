-- A row for each report in turn; `Filling` says what is left to put. The measure is what is left of the blocks.
use Prim.Native.Nat.{ℕ, ◌+◌}
use mathlib.Core.Path.{◌≡◌, refl, sym, ap, ◌∙◌}
use mathlib.Core.List.{List, ◌∷◌}
use lib.Seq.{paste}
use native.Mathlib.Omega.{arith}
use Rattle.std.proofs.Common.{rules}
use Rattle.std.specs.Prelude.{Some, Result, Ok, Err}
use Rattle.std.specs.Result.{IsOk}
use Rattle.refusals.specs.declared.RefusalNumber.{RefusalNumber}
use Rattle.idms.specs.Rows.{row_of}
use Rattle.idms.specs.declared.Item.{Item}
use Rattle.idms.specs.declared.Placed.{Placed}
use Rattle.idms.specs.declared.Report.{Report}
use Rattle.packet_checks.specs.declared.block.Block.{Block}
use Rattle.packet.specs.Report.{report_at}
use Rattle.packet.specs.Answers.{block_is}
use Rattle.datagram.specs.Datagram.{blocks_items}
use Rattle.datagram.proofs.Laws.Datagram.{blocks_end}
use Rattle.rtcp.proofs.Laws.Blocks.{BlockTurn, report_turn, skipped_turn, not-refused, fields_there, fields_read}
use Rattle.rtcp.proofs.Laws.Rows.{filling_none, filling_row, filling_room, filling_end}
use Rattle.rtcp.proofs.rows.fill_blocks.Goals as goal
use Rattle.rtcp.proofs.rows.fill_blocks.Goals.{In-Skipped, In-Report}

pub unwrap-requires : goal.unwrap-requires
unwrap-requires c = go c.block_at.result refl
  where
    go : (r : Result Block RefusalNumber) → c.block_at.result ≡ r → IsOk c.block_at.result
    go (Ok b) e = search rules
    go (Err number) e =
        absurd
        (not-refused c.args.d.now c.args.sender c.args.stop c.loop-place.place c.loop-place-test.true c.loop-place.invariant.0 number
        (sym c.block_at.ensures ∙ e))

-- ---- a block that gives no item

skipped :
    (c : In-Skipped)
    → BlockTurn c.args.d.now c.args.sender c.args.stop c.loop-place.place c.in-Skipped.bytes (λ (l : List Placed). l)
skipped c =
    skipped_turn c.args.d.now c.args.sender c.args.stop c.loop-place.place c.loop-place-test.true c.loop-place.invariant.0
    c.in-Skipped.bytes
    (search rules)

pub overflow_add-place : goal.overflow_add-place
overflow_add-place c = omega (arith, (skipped c).inside, (skipped c).within)

pub loop-place-smaller-in-Skipped : goal.loop-place-smaller-in-Skipped
loop-place-smaller-in-Skipped c = omega (arith, (skipped c).inside, (skipped c).whole)

pub loop-place-preserved-in-Skipped : goal.loop-place-preserved-in-Skipped
loop-place-preserved-in-Skipped c = ((skipped c).later, filling_none c.loop-place.invariant.1 _ (skipped c).all)

-- ---- a report

is_report : (c : In-Report) → block_is c.args.d.now c.args.stop c.loop-place.place ≡ Ok Block.Report
is_report c = search rules

-- the item at a place
abbrev found : List ℕ → ℕ → ℕ → Placed
found d sender place = record { place = place; item = Item.Report (report_at d sender place) }

reported :
    (c : In-Report)
    → BlockTurn c.args.d.now c.args.sender c.args.stop c.loop-place.place 32
    (λ (l : List Placed). found c.args.d.now c.args.sender c.loop-place.place ∷ l)
reported c =
    report_turn c.args.d.now c.args.sender c.args.stop c.loop-place.place c.loop-place-test.true c.loop-place.invariant.0 (is_report c)

pub unwrap-requires-in-Report : goal.unwrap-requires-in-Report
unwrap-requires-in-Report c =
    let a = c.args in
    let e : c.report_at.result ≡ Some (report_at a.d.now a.sender c.loop-place.place) =
    c.report_at.ensures ∙ fields_there a.d.now a.sender a.stop c.loop-place.place (search rules) in
    search rules

pub put_row-requires : goal.put_row-requires
put_row-requires c =
    let a = c.args in
    let t : _ = reported (goal.at.put_row-requires c).In-Report in
    filling_room c.loop-place.invariant.1 _ (blocks_items a.d.now a.sender a.stop (c.loop-place.place + 32)) t.all c.requires.1

pub overflow_add-place-in-Report : goal.overflow_add-place-in-Report
overflow_add-place-in-Report c =
    let t : _ = reported (goal.at.overflow_add-place-in-Report c).In-Report in
    omega (arith, t.inside, t.within)

abbrev row : ℕ → Report → List ℕ
row place x = row_of (record { place = place; item = Item.Report x })

pub loop-place-preserved : goal.loop-place-preserved
loop-place-preserved c =
    let a = c.args in
    let t : _ = reported (goal.at.loop-place-preserved c).In-Report in
    let f : _ =
    fields_read a.d.now a.sender a.stop c.loop-place.place c.unwrap-in-Report.result
    (is_report (goal.at.loop-place-preserved c).In-Report)
    (search rules) in (
      t.later,
      filling_row c.loop-place.invariant.1 _ (blocks_items a.d.now a.sender a.stop (c.loop-place.place + 32)) c.put_row.new.rows t.all
          c.requires.1
          (c.put_row.ensures
          ∙ ap (λ (x : Report). paste c.loop-place.rows c.loop-place.cell (row c.loop-place.place x) 10) f),
    )

pub returns : goal.returns
returns c =
    filling_end c.loop-place.invariant.1
    (blocks_end c.args.d.now c.args.sender c.args.stop c.loop-place.place c.loop-place-test.false)
