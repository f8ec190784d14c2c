-- 21 before 22, then the number: each return has the law of its case. Past the first test the grammar is kept, and past
-- the second there are at most ten digits.
use Rattle.std.specs.Prelude.{Ok}
use mathlib.Core.Bool.{true, false}
use mathlib.Core.Path.{◌≡◌, sym, ap, ◌∙◌}
use native.Mathlib.Omega.{arith}
use lib.ListN.{length}
use Rattle.std.proofs.Common.{rules}
use Rattle.sdp.specs.Digits.{are_digits, value_of}
use Rattle.sdp.specs.Line.{digits_in}
use Rattle.sdp.specs.Answers.{keeps_grammar, are_too_many}
use borrow.Author.Tests.{lt-ltb, le-ltb}
use Rattle.sdp.proofs.Laws.Line.{kept, group_not_kept, group-long, group_great, group-read}
use Rattle.sdp.proofs.read_sync_group.Goals as goal

pub returns-in_err-digits : goal.returns-in_err-digits
returns-in_err-digits c =
    let other : keeps_grammar c.args.line.now ≡ false = rw c.in_err-digits.ensures.ok_part at c.digits_in.ensures in
    let refused = group_not_kept c.args.line.now other in
    rw refused (search rules)

pub returns-then-digits-gt-MOST_DIGITS : goal.returns-then-digits-gt-MOST_DIGITS
returns-then-digits-gt-MOST_DIGITS c =
    let d = c.args.line.now in
    let found = rw c.in_ok-digits.ensures.ok_part at c.digits_in.ensures in
    let many : are_too_many (digits_in d) ≡ true =
    lt-ltb _ _ (omega (arith, ap length found.1, c.if-digits-gt-MOST_DIGITS.true)) in
    sym (group-long d found.0 many)

pub value_of-group-requires : goal.value_of-group-requires
value_of-group-requires c =
    let found = rw c.in_ok-digits.ensures.ok_part at c.digits_in.ensures in
    (omega arith, ap are_digits found.1 ∙ (kept c.args.line.now found.0).each)

pub returns-then-group-gt-GREATEST_GROUP : goal.returns-then-group-gt-GREATEST_GROUP
returns-then-group-gt-GREATEST_GROUP c =
    let d = c.args.line.now in
    let found = rw c.in_ok-digits.ensures.ok_part at c.digits_in.ensures in
    let few : are_too_many (digits_in d) ≡ false =
    le-ltb _ _ (omega (arith, ap length found.1, c.if-digits-gt-MOST_DIGITS.false)) in
    sym (group_great d found.0 few (omega (arith, c.value_of-group.ensures, ap value_of found.1)))

pub returns : goal.returns
returns c =
    let d = c.args.line.now in
    let found = rw c.in_ok-digits.ensures.ok_part at c.digits_in.ensures in
    let few : are_too_many (digits_in d) ≡ false =
    le-ltb _ _ (omega (arith, ap length found.1, c.if-digits-gt-MOST_DIGITS.false)) in
    let group = c.value_of-group.ensures ∙ ap value_of found.1 in
    ap Ok group ∙ sym (group-read d found.0 few (omega (arith, group)))
