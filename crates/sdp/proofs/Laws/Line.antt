-- Laws of the line's grammar.
use Prim.Native.Nat.{ℕ, ◌+◌, ◌-◌, ◌≤◌, ◌<◌}
use Rattle.std.specs.Prelude.{Ok, Err}
use Rattle.refusals.specs.declared.RefusalNumber.{RefusalNumber}
use mathlib.Core.Bool.{Bool, true, false, false≢true, and-eq-true_iff, ◌&&◌}
use mathlib.Core.List.{List, [], ◌++◌}
use mathlib.Core.Path.{◌≡◌, refl, sym, ap, ◌∙◌}
use lib.Dec.{ltb}
use lib.ListN.{length, drop, length-append}
use lib.Seq.{length-slice}
use native.Mathlib.Omega.{arith}
use borrow.Author.Tests.{ltb-true, lt-ltb, le-ltb}
use Rattle.sdp.specs.Digits.{are_digits, value_of}
use Rattle.sdp.specs.Line.{prefix, crlf, sdp_line, greatest_group, digits_in}
use Rattle.sdp.specs.Answers.{starts_with, keeps_grammar, are_too_many, group_in}
use Rattle.sdp.specs.Grammar.{IsSdpLine}
use Rattle.sdp.proofs.Laws.Frame.{starts_append, between, ends_append, framed}

-- ---- sdp_line and digits_in

pub length_line : (digits : List ℕ) → length (sdp_line digits) ≡ length digits + 25
length_line digits =
    let all : length (sdp_line digits) ≡ length (prefix ++ digits) + 2 = length-append (prefix ++ digits) crlf in
    let most : length (prefix ++ digits) ≡ 23 + length digits = length-append prefix digits in
    omega (arith, all, most)

pub digits_in_line : (digits : List ℕ) → digits_in (sdp_line digits) ≡ digits
digits_in_line digits = between prefix crlf digits

-- ---- keeps_grammar

pub line_kept :
    (digits : List ℕ) → 1 ≤ length digits → are_digits digits ≡ true → keeps_grammar (sdp_line digits) ≡ true
unfolding keeps_grammar
line_kept digits some each =
    rw (
      lt-ltb 25 (length (sdp_line digits)) (omega (arith, length_line digits)),
      starts_append prefix (digits ++ crlf),
      ends_append crlf (prefix ++ digits),
      starts_append crlf [],
      digits_in_line digits,
      each,
    )
    refl

pub record Kept (d : List ℕ) : Type 0 where
  pub long : 25 < length d
  pub start : starts_with prefix d ≡ true
  pub end : starts_with crlf (drop (length d - 2) d) ≡ true
  pub each : are_digits (digits_in d) ≡ true

pub kept : (d : List ℕ) → keeps_grammar d ≡ true → Kept d
unfolding keeps_grammar
kept d e =
    let long = ltb 25 (length d) in
    let starts = starts_with prefix d in
    let ends = starts_with crlf (drop (length d - 2) d) in
    let each : _ = (and-eq-true_iff (long && starts && ends) (are_digits (digits_in d))).0 e in
    let end : _ = (and-eq-true_iff (long && starts) ends).0 each.0 in
    let start : _ = (and-eq-true_iff long starts).0 end.0 in
    record { long = ltb-true 25 (length d) start.0; start = start.1; end = end.1; each = each.1 }

pub count_digits : (d : List ℕ) → length (digits_in d) ≡ length d - 25
count_digits d = omega (arith, length-slice 23 (length d - 2) d (omega arith))

pub kept_line : (d : List ℕ) → keeps_grammar d ≡ true → IsSdpLine d (digits_in d)
kept_line d e =
    let k = kept d e in
    record {
      whole = framed prefix crlf d (omega (arith, k.long)) k.start k.end;
      one_or_more = omega (arith, k.long, count_digits d);
      each = k.each;
    }

pub line_digits : (d digits : List ℕ) → IsSdpLine d digits → (keeps_grammar d ≡ true) × (digits_in d ≡ digits)
line_digits d digits h = (
  ap keeps_grammar h.whole ∙ line_kept digits h.one_or_more h.each,
  ap digits_in h.whole ∙ digits_in_line digits,
)

-- ---- keeps_grammar, by the ends that were taken off

pub not_kept : (d : List ℕ) → (IsSdpLine d (digits_in d) → ⊥) → keeps_grammar d ≡ false
not_kept d none = go (keeps_grammar d) refl
  where
    go : (t : Bool) → keeps_grammar d ≡ t → keeps_grammar d ≡ false
    go true e = absurd (none (kept_line d e))
    go false e = e

module _ (d digits : List ℕ) (whole : d ≡ sdp_line digits) where
  inside : digits_in d ≡ digits
  inside = ap digits_in whole ∙ digits_in_line digits

  pub no_digits : length digits ≡ 0 → keeps_grammar d ≡ false
  no_digits e = not_kept d (λ line. omega (arith, line.one_or_more, e, ap length inside))

  pub other_bytes : are_digits digits ≡ false → keeps_grammar d ≡ false
  other_bytes e = not_kept d (λ line. false≢true (sym e ∙ ap are_digits (sym inside) ∙ line.each))

  pub kept_between :
      1 ≤ length digits → are_digits digits ≡ true → (keeps_grammar d ≡ true) × (digits ≡ digits_in d)
  kept_between some each = (ap keeps_grammar whole ∙ line_kept digits some each, sym inside)

-- ---- group_in, by what was looked at

pub group_not_kept : (d : List ℕ) → keeps_grammar d ≡ false → group_in d ≡ Err RefusalNumber.BadLine
unfolding group_in
group_not_kept d e = rw e refl

module _ (d : List ℕ) (e : keeps_grammar d ≡ true) where
  pub group-long : are_too_many (digits_in d) ≡ true → group_in d ≡ Err RefusalNumber.BadGroup
  unfolding group_in
  group-long many = rw (e, many) refl

  module _ (few : are_too_many (digits_in d) ≡ false) where
    pub group_great : greatest_group < value_of (digits_in d) → group_in d ≡ Err RefusalNumber.BadGroup
    unfolding group_in
    group_great h = rw (e, few, lt-ltb greatest_group (value_of (digits_in d)) h) refl

    pub group-read : value_of (digits_in d) ≤ greatest_group → group_in d ≡ Ok (value_of (digits_in d))
    unfolding group_in
    group-read h = rw (e, few, le-ltb greatest_group (value_of (digits_in d)) h) refl
