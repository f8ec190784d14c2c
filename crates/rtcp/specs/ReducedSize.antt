-- Change request E2, for every datagram, over what the calls of the reader answer: 4 is given only where reduced-size
-- RTCP was not agreed, and but for 4 the answers are the same whether or not it was.
use Rattle.std.specs.Prelude.{ℕ, ◌≡◌, List, true, false}
use Rattle.std.specs.Prelude.{Err}
use Rattle.refusals.specs.declared.RefusalNumber.{RefusalNumber}
use Rattle.idms.specs.declared.Refusal.{Refusal}
use Rattle.datagram.specs.Answers.{refusal, item_count}
use Rattle.rtcp.specs.Answers.{item_of, cursor_on}
use Rattle.rtcp.specs.Rows.{rows_answer, rows_after}

-- the datagram gets 4 where reduced size was not agreed
abbrev pub NeedsReducedSize : List ℕ → Type 0
NeedsReducedSize d = item_count false d ≡ Err (refusal RefusalNumber.BadFirst 0)

-- each call answers the same whether or not reduced size was agreed, and leaves the same in the lent array
pub record AnswersAlike (d : List ℕ) : Type 0 where
  pub count : item_count true d ≡ item_count false d
  pub item : (index : ℕ) → item_of true d index ≡ item_of false d index
  pub cursor : cursor_on true d ≡ cursor_on false d
  pub rows : (lent : List ℕ) → rows_answer true d lent ≡ rows_answer false d lent
  pub filled : (lent : List ℕ) → rows_after true d lent ≡ rows_after false d lent

-- no call is refused with 4 where reduced size was agreed
pub record NeverFour (d : List ℕ) : Type 0 where
  pub count : (r : Refusal) → item_count true d ≡ Err r → r.number ≡ RefusalNumber.BadFirst → ⊥
  pub item : (index : ℕ) (r : Refusal) → item_of true d index ≡ Err r → r.number ≡ RefusalNumber.BadFirst → ⊥
  pub cursor : (r : Refusal) → cursor_on true d ≡ Err r → r.number ≡ RefusalNumber.BadFirst → ⊥
  pub rows : (lent : List ℕ) (r : Refusal) → rows_answer true d lent ≡ Err r → r.number ≡ RefusalNumber.BadFirst → ⊥

-- the request, of every datagram
pub record EveryDatagramRead : Type 0 where
  pub alike : (d : List ℕ) → (NeedsReducedSize d → ⊥) → AnswersAlike d
  pub never_four : (d : List ℕ) → NeverFour d
