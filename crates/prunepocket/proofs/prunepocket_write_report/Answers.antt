-- Fields that do not cross are refused here, and all others by the writer.
use native.Mathlib.Omega.{arith}
use Rattle.prunepocket.proofs.Laws.{out_by_payload, out_by_p, wrote_nothing, wrote-report}
use Rattle.std.proofs.Common.{◌≡◌, true}
use Rattle.prunepocket.specs.Messages.{report_of, report_is_out, report_message_with_p}
use Rattle.prunepocket.proofs.prunepocket_write_report.Goals.{
  then-payload_type-gt127-via-then-payload_type-gt127,
  then-payload_type-gt127-via-else-payload_type-gt127+then-p-gt1,
}
use Rattle.prunepocket.proofs.prunepocket_write_report.Goals as goal

pub returns-then-payload_type-gt127 : goal.returns-then-payload_type-gt127
returns-then-payload_type-gt127 c =
    let a = c.args in
    let r = report_of a.sender a.payload_type a.p a.group a.media a.received a.rtp a.presented in
    let out : report_is_out a.p r ≡ true =
    elim c.then-payload_type-gt127.branch [
      | then-payload_type-gt127-via-then-payload_type-gt127 w ↦ out_by_payload a.p r w.if-payload_type-gt127.true
      | then-payload_type-gt127-via-else-payload_type-gt127+then-p-gt1 w ↦ out_by_p a.p r w.if-p-gt1.true
    ] in
    rw c.refuse_at_zero.ensures (wrote_nothing (report_message_with_p a.p r) _ _ out)

pub returns : goal.returns
returns c =
    let a = c.args in
    let r = report_of a.sender a.payload_type a.p a.group a.media a.received a.rtp a.presented in
    wrote-report a.p r _ _ _ _ _ _ (omega arith) c.write_report-w.ensures c.answer_write.ensures
    c.bytes_written.ensures
