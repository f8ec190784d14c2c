-- The fields that cross from C as plain numbers, a writer's answer, and the memory of its byte count afterwards.
use Rattle.std.specs.Prelude.{ℕ, ◌≡◌, List, Bool, ◌||◌, ltb, eqb}
use Rattle.std.specs.Prelude.{Result, Ok, Err}
use Rattle.refusals.specs.declared.RefusalNumber.{RefusalNumber}
use Rattle.buffer.specs.Buffer.{Message, written, buffer}
use Rattle.idms.specs.declared.Report.{Report}
use Rattle.idms.specs.declared.Settings.{Settings}
use Rattle.writer.specs.Messages.{report_is_unwritable, report_message}
use Rattle.prunepocket.specs.declared.Answer.{Answer}
use Rattle.prunepocket.specs.Answers.{no_refusal, at_place_zero}

abbrev pub report_of : (sender type p group media received rtp presented : ℕ) → Report
report_of sender type p group media received rtp presented =
    record {
      sender = sender;
      payload_type = type;
      p = eqb p 1;
      group = group;
      media = media;
      received = received;
      rtp = rtp;
      presented = presented;
    }

abbrev pub settings_of : (sender group media received rtp presented : ℕ) → Settings
settings_of sender group media received rtp presented =
    record { sender = sender; media = media; group = group; received = received; rtp = rtp; presented = presented }

-- refusal 11: P is no bit, or a field is out of range
abbrev pub report_is_out : ℕ → Report → Bool
report_is_out p r = ltb 1 p || report_is_unwritable r

-- The report's message with P as a number: the writer's own, and refused with 11 also where P is no bit.
abbrev pub report_message_with_p : ℕ → Report → Message
report_message_with_p p r =
    record { unwritable = report_is_out p r; number = (report_message r).number; bytes = (report_message r).bytes }

abbrev pub write_answer : Result ℕ RefusalNumber → Answer
write_answer (Ok n) = no_refusal
write_answer (Err number) = at_place_zero number

abbrev pub write_after : Result ℕ RefusalNumber → ℕ → ℕ
write_after (Ok n) before = n
write_after (Err number) before = before

-- What a call that writes a message has done: its answer, the buffer afterwards, and the count's memory afterwards.
pub record Wrote (m : Message) (buf : List ℕ) (count : ℕ) (answer : Answer) (buf' : List ℕ) (count' : ℕ) : Type 0 where
  pub answers : answer ≡ write_answer (written m buf)
  pub leaves : buf' ≡ buffer m buf
  pub counts : count' ≡ write_after (written m buf) count
