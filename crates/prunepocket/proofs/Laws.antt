-- Laws of a call that writes, by what was checked before the writer was called.
use Prim.Native.Nat.{ℕ, ◌<◌, ◌≤◌}
use Rattle.std.specs.Prelude.{Result}
use Rattle.refusals.specs.declared.RefusalNumber.{RefusalNumber}
use Rattle.refusals.specs.Refusals.{refusal_number}
use mathlib.Core.Path.{◌≡◌, refl, ap, ◌∙◌}
use mathlib.Core.List.{List}
use mathlib.Core.Bool.{Bool, true, false, ◌||◌}
use lib.Dec.{ltb}
use borrow.Author.Tests.{lt-ltb, le-ltb}
use Rattle.buffer.specs.Buffer.{Message, WroteMessage}
use Rattle.idms.specs.declared.Report.{Report}
use Rattle.writer.specs.Messages.{report_is_unwritable, report_message}
use Rattle.prunepocket.specs.declared.Answer.{Answer}
use Rattle.prunepocket.specs.Messages.{report_is_out, report_message_with_p, write_answer, write_after, Wrote}

pub out_by_payload : (p : ℕ) (r : Report) → 127 < r.payload_type → report_is_out p r ≡ true
unfolding report_is_unwritable
out_by_payload p r h = rw (lt-ltb 127 r.payload_type h) (either (ltb 1 p))
  where
    either : (t : Bool) → (t || true) ≡ true
    either true = refl
    either false = refl

pub out_by_p : (p : ℕ) (r : Report) → 1 < p → report_is_out p r ≡ true
out_by_p p r h = rw (lt-ltb 1 p h)

out_by_fields : (p : ℕ) (r : Report) → p ≤ 1 → report_is_out p r ≡ report_is_unwritable r
out_by_fields p r h = rw (le-ltb 1 p h)

module _ (m : Message) (buf : List ℕ) (count : ℕ) where
  pub wrote_nothing :
      m.unwritable ≡ true → Wrote m buf count (record { number = refusal_number m.number; place = 0 }) buf count
  wrote_nothing e = record { answers = rw e; leaves = rw e; counts = rw e }

  pub wrote :
      (w : Result ℕ RefusalNumber) (answer : Answer) (buf' : List ℕ) (count' : ℕ) → WroteMessage m buf w buf'
      → answer ≡ write_answer w → count' ≡ write_after w count
      → Wrote m buf count answer buf' count'
  wrote w answer buf' count' e a n =
      record {
        answers = a ∙ ap write_answer e.0;
        leaves = e.1;
        counts = n ∙ ap (λ (x : Result ℕ RefusalNumber). write_after x count) e.0;
      }

pub wrote-report :
    (p : ℕ) (r : Report) (buf : List ℕ) (count : ℕ)
    (w : Result ℕ RefusalNumber) (answer : Answer) (buf' : List ℕ) (count' : ℕ)
    → p ≤ 1 → WroteMessage (report_message r) buf w buf'
    → answer ≡ write_answer w → count' ≡ write_after w count
    → Wrote (report_message_with_p p r) buf count answer buf' count'
wrote-report p r buf count w answer buf' count' h e a n =
    wrote (report_message_with_p p r) buf count w answer buf' count' (rw (out_by_fields p r h) e) a n
