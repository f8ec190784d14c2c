-- Check 1, then the packets.
use mathlib.Core.Path.{sym, ◌∙◌}
use Rattle.datagram.proofs.Laws.Answers.{count-bad-length, count-of-packets}
use Rattle.datagram.proofs.count_items.Goals as goal

pub returns-then-is_bad_length : goal.returns-then-is_bad_length
returns-then-is_bad_length c =
    let a = c.args in
    sym (count-bad-length a.reduced a.d.now (cc))

pub returns : goal.returns
returns c =
    let a = c.args in
    let e : _ = count-of-packets a.reduced a.d.now (cc) in
    c.count_packets.ensures ∙ sym e
