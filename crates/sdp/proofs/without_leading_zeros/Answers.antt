-- The count is that of the zeros in front.
use Rattle.std.proofs.Common.{◌-◌, ◌≡◌, ◌∙◌, rules, tests, ℕ, arith, ap, min, length, drop}
use lib.Dec.{eqb}
use Rattle.std.proofs.lemmas.Iterator.{YieldsList-from_slice}
use Rattle.std.proofs.lemmas.Iterator.Consumers.{count_from_yields_List}
use Rattle.std.proofs.lemmas.Iterator.Search.{YieldsList-from_take_while}
use Rattle.std.proofs.lemmas.List.Folds.{length-prefix_len}
use Rattle.std.proofs.lemmas.Slice.{between_to_end}
use Rattle.sdp.specs.Digits.{zero_digit}
use Rattle.sdp.proofs.Laws.Digits.{zeros_in_front, zeros_left}
use Rattle.sdp.proofs.without_leading_zeros.Goals as goal

pub returns : goal.returns
returns c =
    let digits = c.args.digits.now in
    let count : c.count-zeros.result ≡ zeros_in_front digits =
    count_from_yields_List c.take_while.result _ c.count-zeros.ensures.ran
    (YieldsList-from_take_while _ (λ b. eqb b zero_digit) (YieldsList-from_slice digits (cc))
    c.take_while.ensures.closure c.take_while.ensures.done (λ x b q k. search (rules, tests)))
    ∙ length-prefix_len (λ b. eqb b zero_digit) digits in
    let place : c.min.result ≡ min (zeros_in_front digits) (length digits - 1) =
    omega (arith, c.min.ensures, count, c.told-digits) in
    between_to_end digits c.min.result 10 (omega (arith, c.told-digits))
    ∙ ap (λ (n : ℕ). drop n digits) place ∙ zeros_left digits
