-- The rows of the packets in turn, while rows are missing. The measure is what is left of the datagram.
use Prim.Native.Nat.{◌+◌}
use mathlib.Core.Path.{◌≡◌, ap, ◌∙◌}
use mathlib.Core.Bool.{true}
use lib.ListN.{length, length-append}
use native.Mathlib.Omega.{arith}
use Rattle.std.proofs.Common.{rules}
use Rattle.std.specs.Prelude.{Some}
use Rattle.datagram.specs.Datagram.{parts_check, packet_items, packets_items, datagram_items}
use Rattle.packet.specs.Contents.{contents}
use Rattle.packet.specs.Packet.{size}
use Rattle.rtcp.specs.Rows.{behind}
use Rattle.datagram.proofs.Laws.Datagram.{PacketsTurn, packets_turn}
use Rattle.packet.proofs.Laws.Contents.{known_readable, packet_known}
use Rattle.rtcp.proofs.Laws.Cursor.{start_good}
use Rattle.rtcp.proofs.Laws.Rows.{filling_start, filling_part, filling_end, packets_left_lem, none_left, behind-contents}
use Rattle.rtcp.proofs.rows.fill_rows.Goals as goal
use Rattle.rtcp.proofs.rows.fill_rows.Goals.{In-loop-cell, After-unwrap-x, After-next_place-p}

pub loop-cell-init : goal.loop-cell-init
unfolding datagram_items
loop-cell-init c =
    let d = c.args.d.now in
    (start_good d c.requires.0, filling_start c.args.rows.now 0 (packets_items d 0))

-- a packet is left, and has passed
turn : (c : In-loop-cell) → PacketsTurn true c.args.d.now c.loop-cell.p
turn c =
    let l : _ =
    packets_left_lem c.args.d.now c.args.rows.now c.loop-cell.rows c.loop-cell.cell c.loop-cell.p c.args.n c.loop-cell.invariant.1
    c.requires.1 c.loop-cell-test.true in
    packets_turn true c.args.d.now c.loop-cell.p l c.loop-cell.invariant.0

pub unwrap-x-requires : goal.unwrap-x-requires
unwrap-x-requires c =
    let t : _ = turn (goal.at.unwrap-x-requires c).In-loop-cell in
    let e : c.packet_at.result ≡ Some (contents c.args.d.now c.loop-cell.p) =
    c.packet_at.ensures ∙ packet_known c.args.d.now c.loop-cell.p t.known in
    search rules

held :
    (c : After-unwrap-x) → PacketsTurn true c.args.d.now c.loop-cell.p
    → c.unwrap-x.result ≡ contents c.args.d.now c.loop-cell.p
held c t = let e : _ = packet_known c.args.d.now c.loop-cell.p t.known in cc

pub fill_packet-cell-requires : goal.fill_packet-cell-requires
fill_packet-cell-requires c =
    let d = c.args.d.now in
    let p = c.loop-cell.p in
    let at = goal.at.fill_packet-cell-requires c in
    let t : _ = turn at.In-loop-cell in
    let n : _ = ap length t.items ∙ length-append (packet_items d p) (packets_items d (p + size d p)) in
    let x : c.unwrap-x.result ≡ contents d p = held at.After-unwrap-x t in (
      x,
      known_readable d p t.known,
      ap (parts_check d) x ∙ t.parts,
      omega (arith, n, c.loop-cell.invariant.1.cells, c.loop-cell.invariant.1.long, c.requires.1, c.requires.2),
    )

-- the next place is behind the packet
next :
    (c : After-next_place-p)
    → c.unwrap-x.result ≡ contents c.args.d.now c.loop-cell.p
    → PacketsTurn true c.args.d.now c.loop-cell.p
    → c.next_place-p.result ≡ c.loop-cell.p + size c.args.d.now c.loop-cell.p
next c x t = c.next_place-p.ensures ∙ ap behind x ∙ behind-contents c.args.d.now c.loop-cell.p t.known

pub loop-cell-smaller : goal.loop-cell-smaller
loop-cell-smaller c =
    let at = goal.at.loop-cell-smaller c in
    let t : _ = turn at.In-loop-cell in
    let b' : _ = next at.After-next_place-p (held at.After-unwrap-x t) t in
    omega (arith, t.known.fits, b')

pub loop-cell-preserved : goal.loop-cell-preserved
loop-cell-preserved c =
    let d = c.args.d.now in
    let p = c.loop-cell.p in
    let at = goal.at.loop-cell-preserved c in
    let t : _ = turn at.In-loop-cell in
    rw (next at.After-next_place-p (held at.After-unwrap-x t) t) (
      t.later,
      filling_part c.loop-cell.invariant.1 (packet_items d p) (packets_items d (p + size d p)) c.fill_packet-cell.new.rows
          c.fill_packet-cell.result t.items (omega (arith, c.requires.1, c.requires.2)) c.fill_packet-cell.ensures.1
          c.fill_packet-cell.ensures.0,
    )

pub returns : goal.returns
returns c =
    let d = c.args.d.now in
    (filling_end c.loop-cell.invariant.1
    (none_left d c.args.rows.now c.loop-cell.rows c.loop-cell.cell c.loop-cell.p c.args.n c.loop-cell.invariant.1 c.requires.1
    c.loop-cell-test.false)).1
