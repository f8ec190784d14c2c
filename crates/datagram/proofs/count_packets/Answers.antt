-- The packets checked and counted: what is left to answer never changes. The measure is what is left of the datagram.
use mathlib.Core.Path.{◌≡◌, refl, sym, ◌∙◌}
use lib.ListN.{length}
use native.Mathlib.Omega.{arith}
use Rattle.std.proofs.Common.{rules}
use Rattle.std.specs.Prelude.{Result, Ok, Err}
use Rattle.refusals.specs.declared.RefusalNumber.{RefusalNumber}
use Rattle.packet.specs.declared.header.Head.{Head}
use Rattle.packet.specs.Packet.{size}
use Rattle.packet.proofs.Laws.Contents.{known_readable}
use Rattle.packet.proofs.Laws.Packet.{head_passed, head_is_passed}
use Rattle.datagram.specs.Datagram.{packet_check, packet_items}
use Rattle.datagram.specs.Answers.{refusal, packets_count}
use Rattle.datagram.proofs.Laws.Counting.{head_refused, parts_refused, PacketCounted, packet_counted}
use Rattle.datagram.proofs.Laws.Walk.{tally_end}
use Rattle.datagram.proofs.count_packets.Goals as goal

-- the refusal is the header's, with the packet's place
pub returns-in_err-h : goal.returns-in_err-h
returns-in_err-h c = go c.head_at.result refl
  where
    go : (r : Result Head RefusalNumber) → c.head_at.result ≡ r → c.from_residual.result ≡ packets_count c.args.reduced c.args.d.now 0
    go (Ok h) e = search rules
    go (Err number) e =
        let k : c.from_residual.result ≡ Err (refusal number c.loop-p.p) = search rules in
        k
        ∙ sym
        (c.loop-p.invariant.2
        ∙ head_refused c.args.reduced c.args.d.now c.loop-p.n c.loop-p.p (omega arith) number (sym c.head_at.ensures ∙ e))

pub count_content-requires : goal.count_content-requires
count_content-requires c =
    let d = c.args.d.now in
    let k : _ = head_is_passed c.args.reduced d c.loop-p.p c.in_ok-h.h (search rules) in
    (k.1, known_readable d c.loop-p.p (head_passed c.args.reduced d c.loop-p.p k.0))

pub returns-in_err-n : goal.returns-in_err-n
returns-in_err-n c =
    let k : c.from_residual-in_err-n.result ≡ Err c.in_err-n.field-0.0 = search rules in
    k
    ∙ sym
    (c.loop-p.invariant.2
    ∙ parts_refused c.args.reduced c.args.d.now c.loop-p.n c.loop-p.p (omega arith) c.in_ok-h.h (search rules) _ (search rules))

counted : (c : goal.In_ok-n) → PacketCounted c.args.reduced c.args.d.now c.loop-p.n c.loop-p.p c.in_ok-n.field-0 c.in_ok-h.h.bytes
counted c =
    packet_counted c.args.reduced c.args.d.now c.loop-p.n c.loop-p.p (omega arith) c.in_ok-h.h (search rules) c.in_ok-n.field-0
    (search rules)

pub overflow_add-n : goal.overflow_add-n
overflow_add-n c = omega (arith, (counted c).few, (counted c).inside, c.loop-p.invariant.1)

pub overflow_add-p : goal.overflow_add-p
overflow_add-p c = omega (arith, (counted c).inside)

pub loop-p-smaller : goal.loop-p-smaller
loop-p-smaller c = omega (arith, (counted c).inside, (counted c).whole)

pub loop-p-preserved : goal.loop-p-preserved
loop-p-preserved c =
    let m : _ = counted c in
    (m.inside, omega (arith, m.few, c.loop-p.invariant.1), c.loop-p.invariant.2 ∙ m.rest)

pub returns : goal.returns
returns c =
    let d = c.args.d.now in
    sym
    (c.loop-p.invariant.2
    ∙ tally_end (packet_check c.args.reduced d) (packet_items d) (size d) (length d) (λ k. omega arith) c.loop-p.n c.loop-p.p
    (omega arith))
