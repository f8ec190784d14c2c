-- The blocks checked and counted: what is left to answer never changes. The measure is what is left of the content.
use Prim.Native.Nat.{◌+◌}
use mathlib.Core.Path.{◌≡◌, refl, sym, ◌∙◌}
use native.Mathlib.Nat.{add-zero}
use native.Mathlib.Omega.{arith}
use Rattle.std.proofs.Common.{rules}
use Rattle.std.specs.Prelude.{Result, Ok, Err}
use Rattle.refusals.specs.declared.RefusalNumber.{RefusalNumber}
use Rattle.packet_checks.specs.declared.block.Block.{Block}
use Rattle.packet.specs.Bytes.{be32}
use Rattle.packet.specs.Report.{block_size, block_check, block_items}
use Rattle.datagram.specs.Answers.{refusal, blocks_count}
use Rattle.datagram.proofs.Laws.Counting.{block_refused, BlockCounted, report-counted, skipped_counted}
use Rattle.datagram.proofs.Laws.Walk.{tally_end}
use Rattle.datagram.proofs.count_blocks.Goals as goal

-- the refusal is the block's, with its place
pub returns-in_err-map_err : goal.returns-in_err-map_err
returns-in_err-map_err c = go c.block_at.result refl
  where
    go :
        (r : Result Block RefusalNumber) → c.block_at.result ≡ r
        → c.from_residual.result ≡ blocks_count c.args.d.now c.args.p c.args.content
    go (Ok b) e = search rules
    go (Err number) e =
        let a = c.args in
        let k : c.from_residual.result ≡ Err (refusal number c.loop-at.at) = search rules in
        k
        ∙ sym
        (c.loop-at.invariant.2
        ∙ block_refused a.d.now (be32 a.d.now (a.p + 4)) (a.p + a.content) c.loop-at.n c.loop-at.at (omega arith) number
        (sym c.block_at.ensures ∙ e))

report : (c : goal.In-Report) → BlockCounted c.args.d.now (be32 c.args.d.now (c.args.p + 4)) (c.args.p + c.args.content) c.loop-at.n c.loop-at.at 1 32
report c =
    let a = c.args in
    report-counted a.d.now (be32 a.d.now (a.p + 4)) (a.p + a.content) c.loop-at.n c.loop-at.at (omega arith) (search rules)

skipped : (c : goal.In-Skipped) → BlockCounted c.args.d.now (be32 c.args.d.now (c.args.p + 4)) (c.args.p + c.args.content) c.loop-at.n c.loop-at.at 0 c.in-Skipped.bytes
skipped c =
    let a = c.args in
    skipped_counted a.d.now (be32 a.d.now (a.p + 4)) (a.p + a.content) c.loop-at.n c.loop-at.at (omega arith) c.in-Skipped.bytes
    (search rules)

pub loop-at-preserved-in-Report : goal.loop-at-preserved-in-Report
loop-at-preserved-in-Report c =
    let m : _ = report c in
    (m.inside, omega (arith, c.loop-at.invariant.1), c.loop-at.invariant.2 ∙ m.rest)

pub overflow_add-at-in-Skipped : goal.overflow_add-at-in-Skipped
overflow_add-at-in-Skipped c = omega (arith, (skipped c).inside)

pub loop-at-smaller : goal.loop-at-smaller
loop-at-smaller c = omega (arith, (skipped c).inside, (skipped c).whole)

pub loop-at-preserved : goal.loop-at-preserved
loop-at-preserved c =
    let m : _ = skipped c in
    (m.inside, omega (arith, m.whole, c.loop-at.invariant.1), c.loop-at.invariant.2 ∙ rw add-zero at m.rest)

pub returns : goal.returns
returns c =
    let a = c.args in
    let stop = a.p + a.content in
    sym
    (c.loop-at.invariant.2
    ∙ tally_end (block_check a.d.now stop) (block_items a.d.now (be32 a.d.now (a.p + 4))) (block_size a.d.now) stop
    (λ k. omega arith) c.loop-at.n c.loop-at.at (omega arith))
