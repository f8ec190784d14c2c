-- What C may rely on, beyond each call's own contract: the number of the answer is 0 exactly where the call was not
-- refused. Each statement is of the answer as the call's contract has it.
use Prim.Native.Nat.{ℕ, ◌≤◌}
use Rattle.std.specs.Prelude.{Option, Some, None, Result, Ok, Err}
use Rattle.refusals.specs.declared.RefusalNumber.{RefusalNumber}
use mathlib.Core.Path.{◌≡◌, refl, sym, ap, ◌∙◌}
use mathlib.Core.List.{List, [], ◌∷◌}
use mathlib.Core.Bool.{Bool, true, false, cond}
use mathlib.Core.Logic.{◌↔◌, ◌⊎◌, inl, inr}
use lib.ListN.{length}
use lib.Dec.{ltb, eqb}
use lib.IntN.{ℤ}
use native.Mathlib.Omega.{arith}
use borrow.Author.Tests.{ltb-true, ltb-false}
use Rattle.buffer.specs.Buffer.{written}
use Rattle.idms.specs.Rows.{field_of}
use Rattle.idms.specs.declared.Placed.{Placed}
use Rattle.idms.specs.declared.Refusal.{Refusal}
use Rattle.idms.specs.declared.Report.{Report}
use Rattle.idms.specs.declared.Settings.{Settings}
use Rattle.origin.specs.declared.Origin.{Origin}
use Rattle.register.specs.declared.Reading.{Reading}
use Rattle.register.specs.declared.Record.{Record}
use Rattle.register.specs.declared.Target.{Target}
use Rattle.register.specs.Register.{Rows, Call}
use Rattle.register.specs.Letter.{NoneOf}
use Rattle.register.specs.SettingsCheck.{verdict}
use Rattle.register.specs.SettingsPromise.{settings_lines, refusal_of}
use Rattle.register.proofs.SettingsCheck.{verdict-accepted}
use Rattle.refusals.specs.Refusals.{short_buffer, refusal_number}
use Rattle.refusals.proofs.Laws.{number_positive}
use Rattle.packet.specs.Checks.{Check, passed, refused}
use Rattle.datagram.specs.Datagram.{datagram_check, datagram_items}
use Rattle.datagram.specs.Answers.{item_count}
use Rattle.rtcp.specs.Answers.{item_of}
use Rattle.rtcp.specs.Rows.{rows_answer}
use Rattle.datagram.proofs.Theorems.{Numbered, datagram_numbered}
use Rattle.writer.specs.Messages.{settings_message}
use Rattle.sdp.specs.Line.{group_message}
use Rattle.sdp.specs.Answers.{group_in}
use Rattle.table.specs.declared.Table.{Table}
use Rattle.choosing.specs.Marked.{marked_at}
use Rattle.choosing.specs.Choose.{latest_target, choice_among}
use Rattle.table.specs.Members.{opening_of, records_in}
use Rattle.table.specs.Choose.{choice_of}
use Rattle.table.specs.SettingsCheck.{verdict_on}
use Rattle.intake.specs.Datagrams.{calls_in, calls_answered, answered_unless, datagram_answered}
use Rattle.settings_target.proofs.Theorems.{every_target}
use Rattle.prunepocket.specs.Answers.{count_answer, cell_answer, field_answer}
use Rattle.prunepocket.specs.Messages.{report_message_with_p, write_answer}
use Rattle.prunepocket.specs.SiteFile.{group_answer}
use Rattle.prunepocket.specs.Following.{followed_of}
use Rattle.prunepocket.specs.SettingsCheck.{settings_answered}
use Rattle.prunepocket.specs.LoudspeakerPromise.{EveryLateness}

-- ---- the calls that read

count-accepted :
    (c : Result ℕ Refusal) → ((count_answer c).number ≡ 0) ↔ ((n : ℕ) × (c ≡ Ok n))
count-accepted (Ok n) = ((λ e. (n, refl)), λ s. refl)
count-accepted (Err r) = ((λ e. absurd (number_positive r.number e)), λ s. let e : _ = s.1 in cc)

-- prunepocket_count_items
pub count_items_accepted :
    (reduced : Bool) (d : List ℕ)
    → ((count_answer (item_count reduced d)).number ≡ 0) ↔ ((n : ℕ) × (item_count reduced d ≡ Ok n))
count_items_accepted reduced d = count-accepted (item_count reduced d)

-- prunepocket_read_items
pub read_items_accepted :
    (reduced : Bool) (d rows : List ℕ) →
    ((count_answer (rows_answer reduced d rows)).number ≡ 0) ↔ ((n : ℕ) × (rows_answer reduced d rows ≡ Ok n))
read_items_accepted reduced d rows = count-accepted (rows_answer reduced d rows)

field_accepted :
    (f : Result Placed Refusal) (field : ℕ)
    → ((field_answer f field).number ≡ 0)
    ↔ ((x : Placed) × (v : ℕ) × (f ≡ Ok x) × (field_of x field ≡ Some v))
field_accepted (Err r) field = ((λ e. absurd (number_positive r.number e)), λ s. let e : _ = s.2 in cc)
field_accepted (Ok x) field = (there (field_of x field) refl, back)
  where
    there :
        (t : Option ℕ) → field_of x field ≡ t → (cell_answer (field_of x field)).number ≡ 0
        → (y : Placed) × (v : ℕ) × (◌≡◌ {A = Result Placed Refusal} (Ok x) (Ok y)) × (field_of y field ≡ Some v)
    there (Some v) e z = (x, v, refl, e)
    there None e z = absurd (omega (arith, rw e at z))

    back :
        (y : Placed) × (v : ℕ) × (◌≡◌ {A = Result Placed Refusal} (Ok x) (Ok y)) × (field_of y field ≡ Some v)
        → (cell_answer (field_of x field)).number ≡ 0
    back s =
        let items : ◌≡◌ {A = Result Placed Refusal} (Ok x) (Ok s.0) = s.2 in
        let same : x ≡ s.0 = cc in
        let value : field_of x field ≡ Some s.1 = ap (λ (y : Placed). field_of y field) same ∙ s.3 in
        ap (λ (t : Option ℕ). (cell_answer t).number) value

-- prunepocket_item_field
pub item_field_accepted :
    (reduced : Bool) (d : List ℕ) (index field : ℕ)
    → ((field_answer (item_of reduced d index) field).number ≡ 0)
    ↔ ((x : Placed) × (v : ℕ) × (item_of reduced d index ≡ Ok x) × (field_of x field ≡ Some v))
item_field_accepted reduced d index field = field_accepted (item_of reduced d index) field

-- ---- the calls that write

write_accepted :
    (w : Result ℕ RefusalNumber) → ((write_answer w).number ≡ 0) ↔ ((n : ℕ) × (w ≡ Ok n))
write_accepted (Ok n) = ((λ e. (n, refl)), λ s. refl)
write_accepted (Err n) = ((λ e. absurd (number_positive n e)), λ s. let e : _ = s.1 in cc)

-- prunepocket_write_report
pub write_report_accepted :
    (p : ℕ) (r : Report) (buf : List ℕ)
    → ((write_answer (written (report_message_with_p p r) buf)).number ≡ 0)
    ↔ ((n : ℕ) × (written (report_message_with_p p r) buf ≡ Ok n))
write_report_accepted p r buf = write_accepted (written (report_message_with_p p r) buf)

-- prunepocket_write_settings
pub write_settings_accepted :
    (s : Settings) (buf : List ℕ)
    → ((write_answer (written (settings_message s) buf)).number ≡ 0)
    ↔ ((n : ℕ) × (written (settings_message s) buf ≡ Ok n))
write_settings_accepted s buf = write_accepted (written (settings_message s) buf)

-- ---- the line of a site file

-- prunepocket_read_sync_group
pub read_sync_group_accepted :
    (d : List ℕ) → ((group_answer (group_in d)).number ≡ 0) ↔ ((group : ℕ) × (group_in d ≡ Ok group))
read_sync_group_accepted d = go (group_in d)
  where
    go : (r : Result ℕ RefusalNumber) → ((group_answer r).number ≡ 0) ↔ ((group : ℕ) × (r ≡ Ok group))
    go (Ok group) = ((λ e. (group, refl)), λ s. refl)
    go (Err n) = ((λ e. absurd (number_positive n e)), λ s. let e : _ = s.1 in cc)

-- prunepocket_write_sync_group
pub write_sync_group_accepted :
    (group : ℕ) (buf : List ℕ)
    → ((write_answer (written (group_message group) buf)).number ≡ 0)
    ↔ ((n : ℕ) × (written (group_message group) buf ≡ Ok n))
write_sync_group_accepted group buf = write_accepted (written (group_message group) buf)

-- ---- a datagram taken in

-- a number as a datagram's own refusals have
abbrev pub IsDatagramNumber : ℕ → Type 0
IsDatagramNumber n = (1 ≤ n) × (n ≤ 7)

module _ (t : Table) (calls : List Call) (answers : List ℕ) where
  answered-accepted :
      (k : Check)
      → ((answered_unless k t calls answers).number ≡ 0) ↔ ((k ≡ passed) × (length calls ≤ length answers))
  answered-accepted (refused number place) =
      ((λ e. absurd (number_positive number e)), λ s. let e : _ = s.0 in cc)
  answered-accepted passed = go (ltb (length answers) (length calls)) refl
    where
      go :
          (b : Bool) → ltb (length answers) (length calls) ≡ b
          → ((calls_answered t calls answers).number ≡ 0) ↔ ((passed ≡ passed) × (length calls ≤ length answers))
      go true b =
          let short : _ = ltb-true (length answers) (length calls) b in
          ((λ e. absurd (omega (arith, rw b at e))), λ s. absurd (omega (arith, s.1)))
      go false b = ((λ e. (refl, ltb-false (length answers) (length calls) b)), λ s. rw b)

  answered_numbered :
      (k : Check) → Numbered k
      → ((answered_unless k t calls answers).number ≡ 0)
      ⊎ IsDatagramNumber (answered_unless k t calls answers).number
      ⊎ ((answered_unless k t calls answers).number ≡ short_buffer)
  answered_numbered (refused number place) h = inr (inl (h number place refl))
  answered_numbered passed h = go (ltb (length answers) (length calls)) refl
    where
      go :
          (b : Bool) → ltb (length answers) (length calls) ≡ b
          → ((calls_answered t calls answers).number ≡ 0)
          ⊎ IsDatagramNumber (calls_answered t calls answers).number
          ⊎ ((calls_answered t calls answers).number ≡ short_buffer)
      go true b = rw b (inr (inr refl))
      go false b = rw b (inl refl)

-- prunepocket_take_datagram: 0 exactly where the datagram is not refused and the list is long enough
module _ (t : Table) (reduced : Bool) (d : List ℕ) (origin : Origin) (at : Reading) (answers : List ℕ) where
  pub take_datagram_accepted :
      ((datagram_answered t reduced d origin at answers).number ≡ 0)
      ↔ ((datagram_check reduced d ≡ passed) × (length (calls_in origin at (datagram_items d)) ≤ length answers))
  unfolding datagram_answered
  take_datagram_accepted =
      answered-accepted t (calls_in origin at (datagram_items d)) answers (datagram_check reduced d)

  -- else 1 to 7, or 10
  pub take_datagram_numbered :
      ((datagram_answered t reduced d origin at answers).number ≡ 0)
      ⊎ IsDatagramNumber (datagram_answered t reduced d origin at answers).number
      ⊎ ((datagram_answered t reduced d origin at answers).number ≡ short_buffer)
  unfolding datagram_answered
  take_datagram_numbered =
      answered_numbered t (calls_in origin at (datagram_items d)) answers (datagram_check reduced d)
      (datagram_numbered reduced d)

-- ---- choosing

latest_target_numbered :
    (late : Record → ℤ) (count : ℕ) (rows : Rows) (n : RefusalNumber) → latest_target late count rows ≡ Err n →
    n ≡ RefusalNumber.NoneCounted
unfolding latest_target
latest_target_numbered late count [] n e = cc
latest_target_numbered late count (row ∷ rows) n e = absurd (cc)

-- A choice is refused with 20 alone, for every table value.
pub choice_numbered :
    (t : Table) (at : Reading) (n : RefusalNumber) → choice_of t at ≡ Err n → n ≡ RefusalNumber.NoneCounted
unfolding choice_of choice_among
choice_numbered t at n e = latest_target_numbered _ _ _ n e

followed_accepted :
    (c : Result Target RefusalNumber) (t : Table)
    → ((followed_of c t).number ≡ 0) ↔ ((x : Target) × (c ≡ Ok x))
unfolding followed_of
followed_accepted (Ok x) t = ((λ e. (x, refl)), λ s. refl)
followed_accepted (Err n) t = ((λ e. absurd (number_positive n e)), λ s. let e : _ = s.1 in cc)

-- prunepocket_choose
pub choose_accepted :
    (t : Table) (at : Reading)
    → ((followed_of (choice_of t at) t).number ≡ 0) ↔ ((x : Target) × (choice_of t at ≡ Ok x))
choose_accepted t at = followed_accepted (choice_of t at) t

settings-number : (v : Result Bool RefusalNumber) (t : Table) → (settings_answered v t).number ≡ refusal_of v
unfolding settings_answered
settings-number (Ok true) t = refl
settings-number (Ok false) t = refl
settings-number (Err n) t = refl

-- prunepocket_check_settings: no line of the table of refusals applies, for every table value
pub check_settings_accepted :
    (t : Table) (s : Settings) (at : Reading) (slack : ℕ)
    → ((settings_answered (verdict_on t s at slack) t).number ≡ 0)
    ↔ NoneOf (settings_lines (opening_of t) at (marked_at t.held (records_in t)) s slack)
unfolding verdict_on
check_settings_accepted t s at slack =
    rw (settings-number (verdict (opening_of t) at (marked_at t.held (records_in t)) s slack) t)
    (verdict-accepted (opening_of t) at (marked_at t.held (records_in t)) s slack)

-- ---- a settings packet at a loudspeaker

-- prunepocket_target_lateness
pub every_lateness : EveryLateness
every_lateness = every_target

-- ---- the numbers of refusals: no two variants of the code's enum have the same

abbrev variant_of : ℕ → RefusalNumber
variant_of n =
    cond (eqb n 1) RefusalNumber.BadLength (
    cond (eqb n 2) RefusalNumber.BadPacket (
    cond (eqb n 3) RefusalNumber.BadPadding (
    cond (eqb n 4) RefusalNumber.BadFirst (
    cond (eqb n 5) RefusalNumber.ShortContent (
    cond (eqb n 6) RefusalNumber.BlockPastEnd (
    cond (eqb n 7) RefusalNumber.BadBlockLength (
    cond (eqb n 9) RefusalNumber.NoSuchItem (
    cond (eqb n 10) RefusalNumber.ShortBuffer (
    cond (eqb n 11) RefusalNumber.OutOfRange (
    cond (eqb n 12) RefusalNumber.BadOpening (
    cond (eqb n 13) RefusalNumber.OtherStream (
    cond (eqb n 14) RefusalNumber.OtherOrigin (
    cond (eqb n 15) RefusalNumber.ReceivedFar (
    cond (eqb n 16) RefusalNumber.RtpAged (
    cond (eqb n 17) RefusalNumber.BadlyPresented (
    cond (eqb n 18) RefusalNumber.NoRoom (
    cond (eqb n 19) RefusalNumber.NoMember (
    cond (eqb n 20) RefusalNumber.NoneCounted (
    cond (eqb n 21) RefusalNumber.BadLine (
    cond (eqb n 22) RefusalNumber.BadGroup (
    cond (eqb n 23) RefusalNumber.LongBurst (
    cond (eqb n 24) RefusalNumber.ShortAnswers (
    cond (eqb n 25) RefusalNumber.BadLayout (
    cond (eqb n 26) RefusalNumber.BadStep (
    RefusalNumber.OutsideRange)))))))))))))))))))))))))

variant_back : (r : RefusalNumber) → variant_of (refusal_number r) ≡ r
variant_back RefusalNumber.BadLength = refl
variant_back RefusalNumber.BadPacket = refl
variant_back RefusalNumber.BadPadding = refl
variant_back RefusalNumber.BadFirst = refl
variant_back RefusalNumber.ShortContent = refl
variant_back RefusalNumber.BlockPastEnd = refl
variant_back RefusalNumber.BadBlockLength = refl
variant_back RefusalNumber.NoSuchItem = refl
variant_back RefusalNumber.ShortBuffer = refl
variant_back RefusalNumber.OutOfRange = refl
variant_back RefusalNumber.BadOpening = refl
variant_back RefusalNumber.OtherStream = refl
variant_back RefusalNumber.OtherOrigin = refl
variant_back RefusalNumber.ReceivedFar = refl
variant_back RefusalNumber.RtpAged = refl
variant_back RefusalNumber.BadlyPresented = refl
variant_back RefusalNumber.NoRoom = refl
variant_back RefusalNumber.NoMember = refl
variant_back RefusalNumber.NoneCounted = refl
variant_back RefusalNumber.BadLine = refl
variant_back RefusalNumber.BadGroup = refl
variant_back RefusalNumber.LongBurst = refl
variant_back RefusalNumber.ShortAnswers = refl
variant_back RefusalNumber.BadLayout = refl
variant_back RefusalNumber.BadStep = refl
variant_back RefusalNumber.OutsideRange = refl

pub numbers_differ : (r s : RefusalNumber) → refusal_number r ≡ refusal_number s → r ≡ s
numbers_differ r s e = sym (variant_back r) ∙ ap variant_of e ∙ variant_back s
