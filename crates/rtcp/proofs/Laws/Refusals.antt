-- What holds of the number of every refusal of a datagram holds of the calls' refusals, beside 9 for an index and 10
-- for an array.
use Prim.Native.Nat.{ℕ}
use Rattle.std.specs.Prelude.{Ok, Err}
use Rattle.refusals.specs.declared.RefusalNumber.{RefusalNumber}
use mathlib.Core.Path.{◌≡◌, ap}
use mathlib.Core.List.{List}
use mathlib.Core.Logic.{◌⊎◌, inl, inr}
use mathlib.Core.Bool.{Bool, true, false, cond}
use lib.ListN.{length}
use lib.Dec.{ltb}
use Rattle.idms.specs.declared.Placed.{Placed}
use Rattle.idms.specs.declared.Refusal.{Refusal}
use Rattle.packet.specs.Checks.{Check, passed, refused}
use Rattle.packet.proofs.Laws.Checks.{Refuses}
use Rattle.datagram.specs.Datagram.{datagram_check, datagram_items}
use Rattle.datagram.specs.Answers.{refusal, item_count}
use Rattle.datagram.proofs.Laws.Answers.{datagram-refused}
use Rattle.rtcp.specs.Answers.{pick, item_unless, item_of, cursor_unless, cursor_on}
use Rattle.rtcp.specs.Rows.{too_short, rows_unless, rows_answer}

module _ (P : RefusalNumber → Type 0) (reduced : Bool) (d : List ℕ) where
  -- of every refusal of a check
  abbrev Known : Check → Type 0
  Known k = Refuses (λ (number : RefusalNumber) (place : ℕ). P number) k

  known_as : (number : RefusalNumber) (place : ℕ) (r : Refusal) → Known (refused number place) → refusal number place ≡ r → P r.number
  known_as number place r h same = h r.number r.place (ap (λ (x : Refusal). refused x.number x.place) same)

  module _ (known : Known (datagram_check reduced d)) where
    pub count-refusals : (r : Refusal) → item_count reduced d ≡ Err r → P r.number
    count-refusals r e = known r.number r.place (datagram-refused reduced d r e)

    pub cursor-refusals : (r : Refusal) → cursor_on reduced d ≡ Err r → P r.number
    unfolding cursor_on
    cursor-refusals r e = go (datagram_check reduced d) known e
      where
        go : (k : Check) → Known k → cursor_unless k (length (datagram_items d)) ≡ Err r → P r.number
        go passed h e = cc
        go (refused number place) h e = known_as number place r h (cc)

    pub item-refusals :
        (index : ℕ) (r : Refusal) → item_of reduced d index ≡ Err r → P r.number ⊎ (r.number ≡ RefusalNumber.NoSuchItem)
    unfolding item_of pick
    item-refusals index r e = go (datagram_check reduced d) known e
      where
        past :
            (t : Bool) (x : Placed) → cond t (Ok x) (Err (refusal RefusalNumber.NoSuchItem 0)) ≡ Err r
            → r.number ≡ RefusalNumber.NoSuchItem
        past true x e = cc
        past false x e = cc

        go :
            (k : Check) → Known k → item_unless k (datagram_items d) index ≡ Err r
            → P r.number ⊎ (r.number ≡ RefusalNumber.NoSuchItem)
        go passed h e = inr (past (ltb index (length (datagram_items d))) _ e)
        go (refused number place) h e = inl (known_as number place r h (cc))

    pub rows-refusals :
        (rows : List ℕ) (r : Refusal) → rows_answer reduced d rows ≡ Err r
        → P r.number ⊎ (r.number ≡ RefusalNumber.ShortBuffer)
    unfolding rows_answer
    rows-refusals rows r e = go (datagram_check reduced d) known e
      where
        short :
            (t : Bool) (n : ℕ) → cond t (Err (refusal RefusalNumber.ShortBuffer 0)) (Ok n) ≡ Err r
            → r.number ≡ RefusalNumber.ShortBuffer
        short true n e = cc
        short false n e = cc

        go :
            (k : Check) → Known k → rows_unless k (datagram_items d) rows ≡ Err r
            → P r.number ⊎ (r.number ≡ RefusalNumber.ShortBuffer)
        go passed h e = inr (short (too_short (length (datagram_items d)) rows) _ e)
        go (refused number place) h e = inl (known_as number place r h (cc))
