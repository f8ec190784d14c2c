-- The word's trailing ones are the definition's, and what they mean is the law `lowest_free-place`.
use borrow.Author.Rules.{rules}
use Rattle.places.specs.Places.{lowest_free}
use Rattle.places.specs.Free.{IsLowestFree}
use Rattle.places.proofs.Laws.Free.{lowest_free-place}
use Rattle.places.proofs.lowest_free.Goals as goal

pub returns : goal.returns
unfolding lowest_free
returns c =
    let law : IsLowestFree 64 c.args.word (lowest_free 64 c.args.word) = lowest_free-place 64 c.args.word (search rules) in
    search (rules, law)
