-- What the farewell does at the place that was searched for is stored, and that is what the call leaves.
use Rattle.std.proofs.Common.{◌≡◌, ◌<◌, length, refl, ap, ◌∙◌, arith}
use Rattle.table.specs.declared.Answered.{Answered}
use Rattle.table.specs.declared.filing.Filing.{Filing}
use Rattle.register.specs.Register.{Call}
use Rattle.table.specs.Calls.{answered}
use Rattle.table.specs.Filing.{with_filing}
use Rattle.table.proofs.Laws.Filing.{farewell_filing_number, farewell_stored}
use Rattle.table.proofs.Table.farewell.Goals.{After-farewell_filing-f}
use Rattle.table.proofs.Table.farewell.Goals as goal

-- the filing is the call's, and at one of the 64 places
filed :
    (c : After-farewell_filing-f) →
    (◌≡◌ {A = Answered}
    (record { number = c.farewell_filing-f.result.number; table = with_filing c.args.self c.farewell_filing-f.result })
    (answered c.args.self (Call.farewell c.args.source c.args.origin)))
    × (c.farewell_filing-f.result.place < 64)
filed c =
    let t = c.args.self in
    let long : length t.members ≡ 64 = omega (arith, c.well_formed) in
    let stored : _ =
    farewell_stored t c.args.source _ _ long c.place_of-place.ensures refl c.args.origin _ _
    (c.answer_number.ensures ∙ c.farewell_number_at-checked.ensures) c.farewell_filing-f.ensures in
    let number : _ =
    ap (λ (f : Filing). f.number) c.farewell_filing-f.ensures ∙ farewell_filing_number t.held _ _ _ in
    (rw number stored.0, stored.1)

pub store-requires : goal.store-requires
store-requires c = (filed (goal.at.store-requires c).After-farewell_filing-f).1

pub returns : goal.returns
returns c = rw c.store.ensures (filed (goal.at.returns c).After-farewell_filing-f).0
