-- What the search keeps, by its laws.
use Rattle.std.proofs.Common.{◌≡◌, length, sym, ◌∙◌, arith}
use Rattle.table.proofs.Laws.Search.{among_found, among_next, among_none}
use Rattle.table.proofs.search.place_among.Goals as goal

pub returns-then-is_held_by : goal.returns-then-is_held_by
returns-then-is_held_by c =
    among_found _ _ c.args.sources.now _ _ c.loop-place.invariant (omega arith)
    (sym c.is_held_by.ensures ∙ c.if-is_held_by.true)

pub loop-place-preserved : goal.loop-place-preserved
loop-place-preserved c =
    among_next _ _ c.args.sources.now _ _ c.loop-place.invariant (omega arith)
    (sym c.is_held_by.ensures ∙ c.if-is_held_by.false)

pub returns : goal.returns
returns c =
    let all : length c.args.sources.now ≡ c.loop-place.place = omega arith in
    all ∙ among_none _ _ c.args.sources.now _ _ c.loop-place.invariant (omega arith)
