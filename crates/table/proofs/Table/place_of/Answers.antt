-- As in `search::place_among`, over the members.
use Rattle.std.proofs.Common.{◌≡◌, sym, ◌∙◌, arith}
use Rattle.table.proofs.Laws.Search.{search_found, search_next, search_none}
use Rattle.table.proofs.Table.place_of.Goals as goal

pub returns-then-is_held_by : goal.returns-then-is_held_by
returns-then-is_held_by c =
    let t = c.args.self.now in
    search_found _ _ t.members (omega (arith, c.well_formed)) _ _ c.loop-place.invariant (omega arith)
    (sym c.is_held_by.ensures ∙ c.if-is_held_by.true)

pub loop-place-preserved : goal.loop-place-preserved
loop-place-preserved c =
    let t = c.args.self.now in
    search_next _ _ t.members (omega (arith, c.well_formed)) _ _ c.loop-place.invariant (omega arith)
    (sym c.is_held_by.ensures ∙ c.if-is_held_by.false)

pub returns : goal.returns
returns c =
    let t = c.args.self.now in
    let all : 64 ≡ c.loop-place.place = omega arith in
    all ∙ search_none _ _ t.members (omega (arith, c.well_formed)) _ _ c.loop-place.invariant (omega arith)
