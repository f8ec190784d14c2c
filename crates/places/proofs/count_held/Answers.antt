-- The word's operation by the law `ones_held`.
use borrow.Author.Rules.{rules}
use Rattle.places.proofs.Laws.Free.{ones_held}
use Rattle.places.proofs.count_held.Goals as goal

pub returns : goal.returns
returns c = ones_held 64 c.args.word (search rules)
