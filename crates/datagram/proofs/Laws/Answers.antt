-- Laws of the count, by what was checked.
use Prim.Native.Nat.{ℕ}
use Rattle.std.specs.Prelude.{Ok, Err}
use Rattle.refusals.specs.declared.RefusalNumber.{RefusalNumber}
use mathlib.Core.Path.{◌≡◌}
use mathlib.Core.List.{List}
use mathlib.Core.Bool.{Bool, true, false}
use lib.ListN.{length}
use Rattle.idms.specs.declared.Refusal.{Refusal}
use Rattle.packet.specs.Checks.{passed, refused}
use Rattle.datagram.specs.Datagram.{length_is_bad, datagram_check, datagram_items}
use Rattle.datagram.specs.Answers.{refusal, packets_count, item_count}
use Rattle.datagram.proofs.Laws.Walk.{count_items_lem, count-refused}

module _ (reduced : Bool) (d : List ℕ) where
  pub count-bad-length : length_is_bad (length d) ≡ true → item_count reduced d ≡ Err (refusal RefusalNumber.BadLength 0)
  unfolding item_count datagram_check
  count-bad-length h = rw h

  pub count-of-packets : length_is_bad (length d) ≡ false → item_count reduced d ≡ packets_count reduced d 0
  unfolding item_count datagram_check datagram_items
  count-of-packets h = rw h

  pub count-of-refused :
      (number : RefusalNumber) (place : ℕ) → datagram_check reduced d ≡ refused number place
      → item_count reduced d ≡ Err (refusal number place)
  unfolding item_count
  count-of-refused number place e = rw e

  -- what an answer says of the checks
  pub datagram-passed :
      (n : ℕ) → item_count reduced d ≡ Ok n
      → (datagram_check reduced d ≡ passed) × (n ≡ length (datagram_items d))
  unfolding item_count
  datagram-passed n e = count_items_lem (datagram_check reduced d) (length (datagram_items d)) n e

  pub datagram-refused :
      (r : Refusal) → item_count reduced d ≡ Err r → datagram_check reduced d ≡ refused r.number r.place
  unfolding item_count
  datagram-refused r e = count-refused (datagram_check reduced d) (length (datagram_items d)) r e
