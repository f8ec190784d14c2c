-- A row for each source in turn; `Filling` says what is left to put.
use Prim.Native.Nat.{ℕ, ◌+◌}
use mathlib.Core.Path.{◌≡◌, ap, ◌∙◌}
use lib.Seq.{paste}
use native.Mathlib.Omega.{arith}
use Rattle.std.proofs.Common.{rules}
use Rattle.std.specs.Prelude.{Some}
use Rattle.datagram.specs.Datagram.{source_items}
use Rattle.idms.specs.Rows.{row_of}
use Rattle.idms.specs.declared.Item.{Item}
use Rattle.packet.specs.Bytes.{be32}
use Rattle.packet.specs.Farewell.{farewell_item}
use Rattle.datagram.proofs.Laws.Datagram.{sources_part, sources_end}
use Rattle.packet.proofs.Laws.Bytes.{source_inside, source_read}
use Rattle.rtcp.proofs.Laws.Rows.{Filling, filling_start, filling_row, filling_room, filling_end}
use Rattle.rtcp.proofs.rows.fill_sources.Goals as goal
use Rattle.rtcp.proofs.rows.fill_sources.Goals.{After-put_row}

pub loop-place-init : goal.loop-place-init
loop-place-init c =
    (c.requires.1, filling_start c.args.rows.now c.args.at (source_items c.args.d.now c.args.stop c.args.from))

pub unwrap-requires : goal.unwrap-requires
unwrap-requires c =
    let e : c.source_at.result ≡ Some (be32 c.args.d.now c.loop-place.place) =
    c.source_at.ensures
    ∙ source_inside c.args.d.now c.args.stop c.loop-place.place c.requires.0 (omega (arith, c.loop-place.invariant.0)) in
    search rules

pub put_row-requires : goal.put_row-requires
put_row-requires c =
    let a = c.args in
    filling_room c.loop-place.invariant.1
    (farewell_item a.d.now c.loop-place.place) (source_items a.d.now a.stop (c.loop-place.place + 4))
    (sources_part a.d.now a.stop c.loop-place.place c.loop-place-test.true)
    c.requires.2

filled :
    (c : After-put_row)
    → Filling c.args.rows.now c.args.at (source_items c.args.d.now c.args.stop c.args.from) c.put_row.new.rows (c.loop-place.cell + 10)
    (source_items c.args.d.now c.args.stop (c.loop-place.place + 4))
filled c =
    let a = c.args in
    let s : _ = source_read a.d.now a.stop c.loop-place.place c.unwrap.result (search rules) in
    filling_row c.loop-place.invariant.1 (farewell_item a.d.now c.loop-place.place)
    (source_items a.d.now a.stop (c.loop-place.place + 4)) c.put_row.new.rows
    (sources_part a.d.now a.stop c.loop-place.place c.loop-place-test.true) c.requires.2
    (c.put_row.ensures
    ∙ ap (λ (s : ℕ). paste c.loop-place.rows c.loop-place.cell (row_of (record { place = c.loop-place.place; item = Item.Farewell s })) 10)
    s.2)

pub loop-place-preserved : goal.loop-place-preserved
loop-place-preserved c = (omega (arith, c.loop-place.invariant.0), filled (goal.at.loop-place-preserved c).After-put_row)

pub returns : goal.returns
returns c =
    let a = c.args in
    filling_end c.loop-place.invariant.1 (sources_end a.d.now a.stop c.loop-place.place c.loop-place-test.false)

pub returns-2 : goal.returns-2
returns-2 c =
    filling_end (filled (goal.at.returns-2 c).After-put_row)
    (sources_end c.args.d.now c.args.stop (c.loop-place.place + 4) (omega arith))
