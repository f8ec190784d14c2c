-- Change request E2 of the calls of the reader: every answer is made of the datagram's check and its items, and of
-- these the check alone knows whether reduced size was agreed.
use Prim.Native.Nat.{ℕ}
use Rattle.refusals.specs.declared.RefusalNumber.{RefusalNumber}
use mathlib.Core.Path.{◌≡◌, ap}
use mathlib.Core.List.{List}
use mathlib.Core.Logic.{⊎_elim}
use mathlib.Core.Bool.{true, false}
use lib.ListN.{length}
use Rattle.packet.specs.Checks.{Check}
use Rattle.datagram.specs.Datagram.{datagram_check, datagram_items}
use Rattle.datagram.specs.Answers.{count_unless, item_count}
use Rattle.datagram.proofs.Laws.Answers.{count-of-refused}
use Rattle.datagram.proofs.Theorems.{datagram-alike, datagram_not_four}
use Rattle.rtcp.specs.Answers.{item_unless, item_of, cursor_unless, cursor_on}
use Rattle.rtcp.specs.Rows.{rows_unless, filled_unless, rows_answer, rows_after}
use Rattle.rtcp.specs.ReducedSize.{NeedsReducedSize, AnswersAlike, NeverFour, EveryDatagramRead}
use Rattle.rtcp.proofs.Laws.Refusals.{count-refusals, cursor-refusals, item-refusals, rows-refusals}

answers-alike : (d : List ℕ) → (NeedsReducedSize d → ⊥) → AnswersAlike d
unfolding item_count item_of cursor_on rows_answer rows_after
answers-alike d h =
    let same : datagram_check true d ≡ datagram_check false d =
    datagram-alike d (λ e. h (count-of-refused false d RefusalNumber.BadFirst 0 e)) in
    record {
      count = ap (λ (k : Check). count_unless k (length (datagram_items d))) same;
      item = λ index. ap (λ (k : Check). item_unless k (datagram_items d) index) same;
      cursor = ap (λ (k : Check). cursor_unless k (length (datagram_items d))) same;
      rows = λ lent. ap (λ (k : Check). rows_unless k (datagram_items d) lent) same;
      filled = λ lent. ap (λ (k : Check). filled_unless k (datagram_items d) lent) same;
    }

abbrev NotFour : RefusalNumber → Type 0
NotFour number = number ≡ RefusalNumber.BadFirst → ⊥

no_call_four : (d : List ℕ) → NeverFour d
no_call_four d =
    record {
      count = count-refusals NotFour true d (datagram_not_four d);
      item = λ index r e.
          ⊎_elim (λ n. n) (λ nine four. cc) (item-refusals NotFour true d (datagram_not_four d) index r e);
      cursor = cursor-refusals NotFour true d (datagram_not_four d);
      rows = λ lent r e.
          ⊎_elim (λ n. n) (λ ten four. cc) (rows-refusals NotFour true d (datagram_not_four d) lent r e);
    }

-- Change request E2, for every datagram.
pub every_datagram_read : EveryDatagramRead
every_datagram_read = record { alike = answers-alike; never_four = no_call_four }
