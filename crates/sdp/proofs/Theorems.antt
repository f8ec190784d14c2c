-- What document 02 promises of the SDP line (E1), over the definitions that the contracts of reader and writer cite.
use Prim.Native.Nat.{ℕ, ◌^◌, ◌≤◌, ◌<◌}
use Rattle.std.specs.Prelude.{Result, Ok, Err}
use Rattle.refusals.specs.declared.RefusalNumber.{RefusalNumber}
use mathlib.Core.Bool.{Bool, true, false, false≢true}
use mathlib.Core.List.{List, ◌++◌}
use mathlib.Core.Logic.{◌⊎◌, inl, inr}
use mathlib.Core.Path.{◌≡◌, refl, sym, ap, ◌∙◌, subst}
use lib.Dec.{ltb}
use lib.ListN.{length, take, drop}
use native.Mathlib.Omega.{arith}
use borrow.Author.Tests.{ltb-true, ltb-false, lt-ltb, le-ltb}
use Rattle.buffer.specs.Buffer.{written, WroteMessage}
use Rattle.buffer.proofs.Laws.{message_written}
use Rattle.buffer.proofs.Theorems.{written_front}
use Rattle.sdp.specs.Digits.{value_of, digits_of, has_leading_zero, without_leading_zeros}
use Rattle.sdp.specs.Line.{sdp_line, digits_in, greatest_group, most_digits}
use Rattle.sdp.specs.Line.{group_line, group_message, line_without_leading_zeros}
use Rattle.sdp.specs.Answers.{keeps_grammar, group_in}
use Rattle.sdp.specs.Grammar.{IsSdpLine, GivesGroup, LineSays}
use Rattle.sdp.proofs.Laws.Digits.{
  length_digits,
  digits_of_lem,
  value_digits,
  value_without,
  digits_without,
  length_without,
  some_without,
  no_leading_zero,
  without_none,
  digits_again,
}
use Rattle.sdp.proofs.Laws.Line.{
  length_line,
  kept_line,
  line_digits,
  group_not_kept,
  group-long,
  group_great,
  group-read,
}

-- ---- the grammar

group_bad :
    (d : List ℕ) → keeps_grammar d ≡ true
    → (most_digits < length (digits_in d)) ⊎ (greatest_group < value_of (digits_in d))
    → group_in d ≡ Err RefusalNumber.BadGroup
group_bad d e (inl long) = group-long d e (lt-ltb most_digits (length (digits_in d)) long)
group_bad d e (inr great) = go (ltb most_digits (length (digits_in d))) refl
  where
    go : (t : Bool) → ltb most_digits (length (digits_in d)) ≡ t → group_in d ≡ Err RefusalNumber.BadGroup
    go true many = group-long d e many
    go false few = group_great d e few great

-- Every answer of the reader says what is so.
pub read_says : (d : List ℕ) → LineSays d (group_in d)
read_says d =
    go (keeps_grammar d) refl (ltb most_digits (length digits)) refl (ltb greatest_group (value_of digits)) refl
  where
    digits : List ℕ
    digits = digits_in d

    go :
        (t : Bool) → keeps_grammar d ≡ t → (l : Bool) → ltb most_digits (length digits) ≡ l
        → (g : Bool) → ltb greatest_group (value_of digits) ≡ g → LineSays d (group_in d)
    go false t l m g h =
        subst (LineSays d) (sym (group_not_kept d t))
        (inl (refl, λ others line. false≢true (sym t ∙ (line_digits d others line).0)))
    go true t true m g h =
        let long : _ = ltb-true most_digits (length digits) m in
        subst (LineSays d) (sym (group_bad d t (inl long))) (inr (refl, (digits, kept_line d t, inl long)))
    go true t false m true h =
        let great : _ = ltb-true greatest_group (value_of digits) h in
        subst (LineSays d) (sym (group_bad d t (inr great))) (inr (refl, (digits, kept_line d t, inr great)))
    go true t false m false h =
        let few : _ = ltb-false most_digits (length digits) m in
        let low : _ = ltb-false greatest_group (value_of digits) h in
        subst (LineSays d) (sym (group-read d t m low)) (digits, kept_line d t, (few, refl, low))

-- No other answer does: what an answer says determines it.
pub says_read : (d : List ℕ) (answer : Result ℕ RefusalNumber) → LineSays d answer → answer ≡ group_in d
says_read d (Ok group) (digits, line, (few, spelt, low)) =
    let kept : _ = line_digits d digits line in
    let number : value_of (digits_in d) ≡ group = ap value_of kept.1 ∙ spelt in
    let count : length (digits_in d) ≡ length digits = ap length kept.1 in
    ap Ok (sym number)
    ∙ sym
    (group-read d kept.0 (le-ltb most_digits (length (digits_in d)) (omega (arith, count, few)))
    (omega (arith, number, low)))
says_read d (Err number) (inl (e, none)) = go (keeps_grammar d) refl
  where
    go : (t : Bool) → keeps_grammar d ≡ t → Err number ≡ group_in d
    go true t = absurd (none (digits_in d) (kept_line d t))
    go false t = ap Err e ∙ sym (group_not_kept d t)
says_read d (Err number) (inr (e, (digits, line, bad))) =
    let kept : _ = line_digits d digits line in
    ap Err e
    ∙ sym
    (group_bad d kept.0
    (subst (λ (l : List ℕ). (most_digits < length l) ⊎ (greatest_group < value_of l)) (sym kept.1) bad))

-- No line is read as two numbers.
pub read-once : (d : List ℕ) (a b : ℕ) → LineSays d (Ok a) → LineSays d (Ok b) → a ≡ b
read-once d a b h k =
    let same : Ok a ≡ Ok b =
    says_read d (Ok a) h ∙ sym (says_read d (Ok b) k) in
    cc

-- The reader refuses with 21 or 22 alone.
pub read_numbered :
    (d : List ℕ) (number : RefusalNumber) → group_in d ≡ Err number
    → (number ≡ RefusalNumber.BadLine) ⊎ (number ≡ RefusalNumber.BadGroup)
read_numbered d number e = go (subst (LineSays d) e (read_says d))
  where
    go : LineSays d (Err number) → (number ≡ RefusalNumber.BadLine) ⊎ (number ≡ RefusalNumber.BadGroup)
    go (inl h) = inl h.0
    go (inr h) = inr h.0

-- ---- written, then read

-- the digits that are written: one to ten, without a leading zero, and they spell the number
pub written_digits :
    (group : ℕ) → group ≤ greatest_group
    → IsSdpLine (group_line group) (without_leading_zeros (digits_of most_digits group))
    × GivesGroup (without_leading_zeros (digits_of most_digits group)) group
    × (has_leading_zero (without_leading_zeros (digits_of most_digits group)) ≡ false)
written_digits group h =
    let ten = digits_of most_digits group in
    let count : length ten ≡ most_digits = length_digits most_digits group in
    let fits : group < 10 ^ most_digits = omega arith in (
      record {
        whole = refl;
        one_or_more = some_without ten (omega (arith, count));
        each = digits_without ten (digits_of_lem most_digits group);
      },
      (omega (arith, count, length_without ten), value_without ten ∙ value_digits most_digits group fits, h),
      no_leading_zero ten,
    )

pub line_read : (group : ℕ) → group ≤ greatest_group → group_in (group_line group) ≡ Ok group
line_read group h =
    let w : _ = written_digits group h in
    sym (says_read (group_line group) (Ok group) (_, w.0, w.1))

-- Whatever was written, and wherever: those bytes are read as the number.
pub written_read :
    (group count : ℕ) (buf buf' : List ℕ) → WroteMessage (group_message group) buf (Ok count) buf'
    → group_in (take count buf') ≡ Ok group
written_read group count buf buf' w =
    let front : _ = written_front (group_message group) buf buf' count w in
    ap group_in front.1 ∙ line_read group (ltb-false greatest_group group front.0)

-- Every number up to the greatest is written where the buffer is long enough, and 35 bytes always are.
pub group-written :
    (group : ℕ) (buf : List ℕ) → group ≤ greatest_group → 35 ≤ length buf
    → written (group_message group) buf ≡ Ok (length (group_line group))
group-written group buf h k =
    let w : _ = written_digits group h in
    let size : _ = length_line (without_leading_zeros (digits_of most_digits group)) in
    sym
    (message_written (group_message group) buf (le-ltb greatest_group group h) (omega (arith, size, w.1.0, k))).0

-- Two different numbers are never written alike.
pub written_apart :
    (a b m n : ℕ) (buf buf' other other' : List ℕ)
    → WroteMessage (group_message a) buf (Ok m) buf'
    → WroteMessage (group_message b) other (Ok n) other'
    → take m buf' ≡ take n other' → a ≡ b
written_apart a b m n buf buf' other other' w v e =
    let same : Ok a ≡ Ok b =
    sym (written_read a m buf buf' w) ∙ ap group_in e ∙ written_read b n other other' v in
    cc

-- ---- read, then written

-- The line of the number that was read is that line with its leading zeros gone.
pub line_again :
    (d : List ℕ) (group : ℕ) → group_in d ≡ Ok group → group_line group ≡ line_without_leading_zeros d
line_again d group e =
    let says : LineSays d (Ok group) = subst (LineSays d) e (read_says d) in
    let digits = says.0 in
    let line = says.1 in
    let gives = says.2 in
    ap (λ (n : ℕ). sdp_line (without_leading_zeros (digits_of most_digits n))) (sym gives.1)
    ∙ ap sdp_line (digits_again most_digits digits line.each line.one_or_more gives.0)
    ∙ ap (λ (l : List ℕ). sdp_line (without_leading_zeros l)) (sym (line_digits d digits line).1)

-- What is written of the number that a line was read as, into a buffer that is long enough: that line with its leading
-- zeros gone, and behind it what was there.
pub read-written :
    (d : List ℕ) (group : ℕ) (buf buf' : List ℕ) (answer : Result ℕ RefusalNumber) → group_in d ≡ Ok group
    → length (line_without_leading_zeros d) ≤ length buf → WroteMessage (group_message group) buf answer buf'
    → (answer ≡ Ok (length (line_without_leading_zeros d)))
    × (buf' ≡ line_without_leading_zeros d ++ drop (length (line_without_leading_zeros d)) buf)
read-written d group buf buf' answer e h w =
    let says : LineSays d (Ok group) = subst (LineSays d) e (read_says d) in
    let line : _ = line_again d group e in
    let room : length (group_line group) ≤ length buf =
    subst (λ (l : List ℕ). length l ≤ length buf) (sym line) h in
    let m : _ = message_written (group_message group) buf (le-ltb greatest_group group says.2.2) room in (
      w.0 ∙ sym m.0 ∙ ap (λ (l : List ℕ). Ok (length l)) line,
      w.1 ∙ sym m.1 ∙ ap (λ (l : List ℕ). l ++ drop (length l) buf) line,
    )

-- So the very bytes of a line that had no leading zeros.
pub read_written_same :
    (d : List ℕ) (group : ℕ) (buf buf' : List ℕ) (answer : Result ℕ RefusalNumber) → group_in d ≡ Ok group
    → has_leading_zero (digits_in d) ≡ false → length d ≤ length buf
    → WroteMessage (group_message group) buf answer buf'
    → (answer ≡ Ok (length d)) × (buf' ≡ d ++ drop (length d) buf)
read_written_same d group buf buf' answer e none h w =
    let says : LineSays d (Ok group) = subst (LineSays d) e (read_says d) in
    let digits : digits_in d ≡ says.0 = (line_digits d says.0 says.1).1 in
    let same : line_without_leading_zeros d ≡ d =
    ap sdp_line (without_none (digits_in d) none ∙ digits) ∙ sym says.1.whole in
    subst
    (λ (l : List ℕ). (answer ≡ Ok (length l)) × (buf' ≡ l ++ drop (length l) buf))
    same
    (read-written d group buf buf' answer e (subst (λ (l : List ℕ). length l ≤ length buf) (sym same) h) w)
