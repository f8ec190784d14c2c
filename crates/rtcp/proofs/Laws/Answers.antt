-- Laws of the public answers, by what was checked.
use Prim.Native.Nat.{ℕ, ◌≤◌, ◌<◌}
use Rattle.std.specs.Prelude.{Ok, Err}
use Rattle.refusals.specs.declared.RefusalNumber.{RefusalNumber}
use mathlib.Core.Path.{◌≡◌, sym, ap}
use mathlib.Core.List.{List}
use mathlib.Core.Bool.{Bool}
use lib.ListN.{length, get_or}
use borrow.Author.Tests.{lt-ltb, le-ltb}
use Rattle.idms.specs.declared.Refusal.{Refusal}
use Rattle.packet.specs.Checks.{passed, refused}
use Rattle.datagram.specs.Datagram.{datagram_check, datagram_items}
use Rattle.datagram.specs.Answers.{refusal, item_count}
use Rattle.datagram.proofs.Laws.Answers.{datagram-passed, datagram-refused}
use Rattle.rtcp.specs.Answers.{nothing, pick, item_of, cursor_on}
use Rattle.rtcp.specs.Cursor.{start}

-- ---- cursor_on

module _ (reduced : Bool) (d : List ℕ) where
  pub cursor-passed : (n : ℕ) → item_count reduced d ≡ Ok n → cursor_on reduced d ≡ Ok (n, start)
  unfolding cursor_on
  cursor-passed n e =
      let m : _ = datagram-passed reduced d n e in rw m.0 (ap (λ (k : ℕ). Ok (k, start)) (sym m.1))

  pub cursor-refused : (r : Refusal) → item_count reduced d ≡ Err r → cursor_on reduced d ≡ Err r
  unfolding cursor_on
  cursor-refused r e = rw (datagram-refused reduced d r e)

-- ---- item_of

module _ (reduced : Bool) (d : List ℕ) (index : ℕ) where
  pub item_refused :
      (number : RefusalNumber) (place : ℕ) → datagram_check reduced d ≡ refused number place
      → item_of reduced d index ≡ Err (refusal number place)
  unfolding item_of
  item_refused number place e = rw e

  pub item-past :
      datagram_check reduced d ≡ passed → length (datagram_items d) ≤ index
      → item_of reduced d index ≡ Err (refusal RefusalNumber.NoSuchItem 0)
  unfolding item_of pick
  item-past e h = rw (e, le-ltb index (length (datagram_items d)) h)

  pub item-there :
      datagram_check reduced d ≡ passed → index < length (datagram_items d)
      → item_of reduced d index ≡ Ok (get_or (datagram_items d) index nothing)
  unfolding item_of pick
  item-there e h = rw (e, lt-ltb index (length (datagram_items d)) h)
