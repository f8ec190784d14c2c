-- Order of arrival (document 02, E8) of whole datagrams: a datagram is its calls, where they are made.
use Prim.Native.Nat.{ℕ}
use mathlib.Core.Bool.{Bool, true, false}
use mathlib.Core.List.{List, ◌++◌}
use mathlib.Core.Path.{◌≡◌, refl}
use lib.Dec.{ltb}
use lib.ListN.{length, drop}
use Rattle.refusals.specs.Refusals.{short_buffer, refusal_number}
use Rattle.packet.specs.Checks.{Check, passed, refused}
use Rattle.datagram.specs.Datagram.{datagram_check}
use Rattle.register.specs.Register.{Call}
use Rattle.table.specs.declared.Table.{Table}
use Rattle.table.specs.ArrivalOrder.{CallResult}
use Rattle.table.proofs.ArrivalOrder.{reached_agreement, Brings, results_in_either_order}
use Rattle.intake.specs.Datagrams.{answered_unless, numbers_unless, datagram_answered, answers_after}
use Rattle.intake.specs.ArrivalOrder.{Incoming, incoming_calls, datagram_result, EveryTwoDatagrams}

-- a datagram with this check and these calls
abbrev result_unless : Check → List Call → List ℕ → Table → CallResult (ℕ × ℕ × ℕ × List ℕ)
result_unless check calls lent t =
    let result = answered_unless check t calls lent in
    record {
      seen = (result.number, result.place, result.count, numbers_unless check t calls lent);
      table = result.table;
    }

brings_unless : (check : Check) (calls : List Call) (lent : List ℕ) → Brings (result_unless check calls lent) calls
brings_unless (refused number place) calls lent =
    record {
      made = false;
      show = λ numbers. (refusal_number number, place, 0, lent);
      seen = λ t. refl;
      table = λ t. refl;
    }
brings_unless passed calls lent = go (ltb (length lent) (length calls)) refl
  where
    go : (b : Bool) → ltb (length lent) (length calls) ≡ b → Brings (result_unless passed calls lent) calls
    go true e =
        record {
          made = false;
          show = λ numbers. (short_buffer, 0, 0, lent);
          seen = λ t. rw e refl;
          table = λ t. rw e refl;
        }
    go false e =
        record {
          made = true;
          show = λ numbers. (0, 0, length calls, numbers ++ drop (length calls) lent);
          seen = λ t. rw e refl;
          table = λ t. rw e refl;
        }

-- a datagram is its calls, where they are made
datagram_brings : (a : Incoming) → Brings (datagram_result a) (incoming_calls a)
unfolding datagram_answered answers_after
datagram_brings a = brings_unless (datagram_check a.reduced a.datagram) (incoming_calls a) a.lent

pub every_two_datagrams : EveryTwoDatagrams
every_two_datagrams o calls t ms reached a b apart all =
    results_in_either_order o t ms (reached_agreement o calls t ms reached) (datagram_result a) (datagram_result b)
    (incoming_calls a) (incoming_calls b) (datagram_brings a) (datagram_brings b) apart all
