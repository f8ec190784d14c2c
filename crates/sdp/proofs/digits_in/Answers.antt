-- The ends that are taken off are those of the grammar; what is left between them decides.
use Rattle.std.proofs.lemmas.Bool.{eqb-true, eqb-false}
use Rattle.std.proofs.lemmas.Bool.Decides.{Decides-eqb}
use Rattle.std.proofs.lemmas.Iterator.{YieldsList-from_slice}
use Rattle.std.proofs.lemmas.Iterator.Search.{all_from_yields_List}
use Rattle.std.proofs.lemmas.Slice.Eq.{strip_prefix_is, strip_suffix_is}
use Rattle.std.proofs.Common.{ℕ, List, length, ◌≡◌, ◌++◌, Some, None, sym, ap, ◌∙◌, drop, arith, rules, tests}
use Rattle.std.specs.Char.{is_ascii_digit}
use Rattle.sdp.specs.Line.{prefix, crlf, sdp_line}
use Rattle.sdp.proofs.Laws.Digits.{all_digits}
use Rattle.sdp.proofs.Laws.Line.{not_kept, no_digits, other_bytes, kept_between}
use Rattle.sdp.proofs.digits_in.Goals.{then-is_empty-via-then-is_empty, then-is_empty-via-else-is_empty+then-not-all}
use Rattle.sdp.proofs.digits_in.Goals as goal

pub returns-in_err-strip_prefix : goal.returns-in_err-strip_prefix
returns-in_err-strip_prefix c =
    let d = c.args.line.now in
    rw c.from_residual.ensures
    (not_kept d (λ line. strip_prefix_is Decides-eqb d prefix None c.in_err-strip_prefix.ensures.cases _ line.whole))

pub returns-in_err-digits : goal.returns-in_err-digits
returns-in_err-digits c =
    let d = c.args.line.now in
    let rest = c.in_ok-strip_prefix.field-0.now in
    rw c.from_residual-in_err-digits.ensures
    (not_kept d
    (λ line. strip_suffix_is Decides-eqb rest crlf None c.in_err-digits.ensures.cases _
    (c.in_ok-strip_prefix.ensures.cases.1 ∙ ap (drop 23) line.whole)))

-- A line that has both ends, with these digits between them.
found : (d rest digits : List ℕ) → d ≡ prefix ++ rest → rest ≡ digits ++ crlf → d ≡ sdp_line digits
found d rest digits e f = e ∙ ap (λ (r : List ℕ). prefix ++ r) f

pub returns-then-is_empty : goal.returns-then-is_empty
returns-then-is_empty c =
    let d = c.args.line.now in
    let rest = c.in_ok-strip_prefix.field-0 in
    let digits = c.in_ok-digits.digits in
    let whole =
    found d rest.now digits.now (strip_prefix_is Decides-eqb d prefix (Some rest) c.in_ok-strip_prefix.ensures.cases)
    (strip_suffix_is Decides-eqb rest.now crlf (Some digits) c.in_ok-digits.ensures.cases) in
    elim c.then-is_empty.branch [
      | then-is_empty-via-then-is_empty w ↦ no_digits d digits.now whole
          (eqb-true _ 0 (sym c.is_empty.ensures ∙ w.if-is_empty.true))
      | then-is_empty-via-else-is_empty+then-not-all w ↦
          let each =
          all_from_yields_List is_ascii_digit _ _ w.all.result w.all.ensures.ran
          (YieldsList-from_slice digits.now (cc)) (λ x b q k. search (rules, tests))
          ∙ all_digits digits.now in
          other_bytes d digits.now whole (sym each ∙ w.if-not-all.true)
    ]

pub returns : goal.returns
returns c =
    let d = c.args.line.now in
    let rest = c.in_ok-strip_prefix.field-0 in
    let digits = c.in_ok-digits.digits in
    let whole =
    found d rest.now digits.now (strip_prefix_is Decides-eqb d prefix (Some rest) c.in_ok-strip_prefix.ensures.cases)
    (strip_suffix_is Decides-eqb rest.now crlf (Some digits) c.in_ok-digits.ensures.cases) in
    let each =
    all_from_yields_List is_ascii_digit _ _ c.all.result c.all.ensures.ran
    (YieldsList-from_slice digits.now (cc)) (λ x b q k. search (rules, tests))
    ∙ all_digits digits.now in
    let some = eqb-false (length digits.now) 0 (sym c.is_empty.ensures ∙ c.if-is_empty.false) in
    kept_between d digits.now whole (omega (arith, some)) (sym each ∙ c.if-not-all.false)
