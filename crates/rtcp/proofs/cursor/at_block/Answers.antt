-- A block that reports gives its report; behind the last one comes the next packet.
use mathlib.Core.Path.{sym}
use native.Mathlib.Omega.{arith}
use Rattle.std.proofs.Common.{rules}
use Rattle.packet.proofs.Laws.Blocks.{met_report, met_skipped, gave_report, gave_skipped, gave_refused}
use Rattle.rtcp.proofs.Laws.Advance.{behind_blocks, at_block}
use Rattle.rtcp.proofs.cursor.at_block.Goals as goal

pub returns-then-stop-at : goal.returns-then-stop-at
returns-then-stop-at c =
    let a = c.args in
    sym (behind_blocks a.d.now a.sender a.at a.stop a.next c.if-stop-at.true)

pub overflow_add-result : goal.overflow_add-result
overflow_add-result c =
    let a = c.args in
    let m : _ = gave_skipped a.d.now a.sender a.stop a.at c.in-Ok-Skipped.bytes (search rules) in
    let k : _ = met_skipped a.d.now a.stop a.at _ m in
    omega (arith, k.0.inside, k.0.within)

pub overflow_add-result-in-Ok-Report : goal.overflow_add-result-in-Ok-Report
overflow_add-result-in-Ok-Report c =
    let a = c.args in
    let m : _ = gave_report a.d.now a.sender a.stop a.at c.in-Ok-Report.r (search rules) in
    let k : _ = met_report a.d.now a.stop a.at m.0 in
    omega (arith, k.0.inside, k.0.within)

pub returns-in-Err : goal.returns-in-Err
returns-in-Err c =
    let a = c.args in
    let m : _ = gave_refused a.d.now a.sender a.stop a.at c.in-Err.field-0 (search rules) in
    sym (at_block a.d.now a.sender a.at a.stop a.next c.if-stop-at.false m)

pub returns-in-Ok-Skipped : goal.returns-in-Ok-Skipped
returns-in-Ok-Skipped c =
    let a = c.args in
    let m : _ = gave_skipped a.d.now a.sender a.stop a.at c.in-Ok-Skipped.bytes (search rules) in
    sym (at_block a.d.now a.sender a.at a.stop a.next c.if-stop-at.false m)

pub returns-in-Ok-Report : goal.returns-in-Ok-Report
returns-in-Ok-Report c =
    let a = c.args in
    let m : _ = gave_report a.d.now a.sender a.stop a.at c.in-Ok-Report.r (search rules) in
    let e : _ = at_block a.d.now a.sender a.at a.stop a.next c.if-stop-at.false m.0 in
    let f : _ = m.1 in cc
