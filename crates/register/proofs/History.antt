-- Calls after calls: the register goes on from the rows that the first of them left.
use Prim.Native.Nat.{ℕ, suc}
use mathlib.Core.Path.{◌≡◌, refl, ap, ◌∙◌}
use mathlib.Core.List.{List, [], ◌∷◌, ◌++◌}
use lib.ListN.{length, drop}
use lib.Seq.{drop_at}
use Rattle.register.specs.declared.Opening.{Opening}
use Rattle.register.specs.Register.{Rows, Call, answer, after, answers, after_all}
use Rattle.register.specs.Promise.{AllInRange}

-- one answer for each call
pub length-answers : (o : Opening) (rows : Rows) (calls : List Call) → length (answers o rows calls) ≡ length calls
unfolding answers
length-answers o rows [] = refl
length-answers o rows (call ∷ calls) = ap suc (length-answers o (after o rows call) calls)

pub answers-append :
    (o : Opening) (rows : Rows) (calls more : List Call) →
    answers o rows (calls ++ more) ≡ answers o rows calls ++ answers o (after_all o rows calls) more
unfolding answers after_all
answers-append o rows [] more = refl
answers-append o rows (call ∷ calls) more =
    ap (λ (ns : List ℕ). answer o rows call ∷ ns) (answers-append o (after o rows call) calls more)

-- the answers behind those to the calls before
pub answers-behind :
    (o : Opening) (calls more : List Call) →
    drop (length calls) (answers o [] (calls ++ more)) ≡ answers o (after_all o [] calls) more
answers-behind o calls more =
    ap (drop (length calls)) (answers-append o [] calls more)
    ∙ drop_at (answers o [] calls) _ (length calls) (length-answers o [] calls)

pub ranges-append : (calls more : List Call) → AllInRange calls → AllInRange more → AllInRange (calls ++ more)
unfolding AllInRange
ranges-append [] more first second = second
ranges-append (call ∷ calls) more first second = (first.0, ranges-append calls more first.1 second)
