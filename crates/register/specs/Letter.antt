-- What demand 3 says of members and twins, request E5 of their tallies, and what each answer means, in the words of the
-- letter and of the papers' table of refusal numbers, over what the customer sees: the calls of a list, the answer that
-- each got, and the members shown. Nothing here is kept from call to call: who is a member, and its tally, follow from
-- the list. `twins` alone compares what is shown before and after one call.
use Rattle.std.specs.Prelude.{ℕ, ◌+◌, ◌*◌, ◌^◌, ◌<◌, Bool, false, cond, ◌&&◌, ◌⊎◌, ◌↔◌, ◌≡◌, ltb, eqb, length}
use mathlib.Core.List.{List, [], ◌∷◌, ◌++◌, Memᴰ}
use Rattle.refusals.specs.Refusals.{bad_opening, other_stream, other_origin, received_far, rtp_aged, badly_presented}
use Rattle.refusals.specs.Refusals.{no_room, no_member}
use Rattle.times.specs.Times.{ntp_age, rtp_age, delay, expanded}
use Rattle.origin.specs.declared.Origin.{Origin}
use Rattle.register.specs.declared.Record.{Record}
use Rattle.register.specs.declared.Member.{Member}
use Rattle.register.specs.declared.Reading.{Reading}
use Rattle.register.specs.declared.Opening.{Opening}
use Rattle.register.specs.Register.{Rows, Call, filter}
use Rattle.register.specs.Promise.{Unique}

-- ---- a list of calls with their answers

-- a call with the answer that it got: a refusal's number, or 0 that there is none
pub data Event : Type 0 where
  got : Call → ℕ → Event

-- the calls since the opening with their answers, in the order in which they were made
abbrev pub History : Type 0
History = List Event

-- each call with its answer, up to the end of the shorter list
unfoldable pub history : List Call → List ℕ → History
history [] numbers = []
history (call ∷ calls) [] = []
history (call ∷ calls) (number ∷ numbers) = got call number ∷ history calls numbers

-- the calls of a history
unfoldable pub made_in : History → List Call
made_in [] = []
made_in (got call number ∷ events) = call ∷ made_in events

-- a statement about each call of a history, with its answer and the history before it
abbrev pub OfEachCall : (History → Call → ℕ → Type 0) → History → Type 0
OfEachCall Says h =
    (before : History) (call : Call) (number : ℕ) (behind : History) → h ≡ before ++ (got call number ∷ behind) →
    Says before call number

-- ---- check 12, of an opening

-- 12: group 0 or 4,294,967,295, or rate outside 1 to 192,000
abbrev pub BadOpening : Opening → Type 0
BadOpening o = ((o.group ≡ 0) ⊎ (o.group ≡ 4294967295)) ⊎ ((o.rate < 1) ⊎ (192000 < o.rate))

-- ---- checks 13, 15, 16 and 17, of a report's own fields

-- 13: report of another group or media source
abbrev pub OtherStream : Opening → Record → Type 0
OtherStream o x = (x.report.group ≡ o.group) × (x.report.media ≡ o.media) → ⊥

-- 15: received time not within 30 s at or before the sender's reading
abbrev pub ReceivedFar : Reading → Record → Type 0
ReceivedFar at x = 30 * 2 ^ 32 < ntp_age at.ntp x.report.received

-- 16: RTP age above 60 seconds of media clock
abbrev pub RtpAged : Opening → Reading → Record → Type 0
RtpAged o at x = 60 * o.rate < rtp_age at.rtp x.report.rtp

-- 17, only where P is 1, which any number but 0 stands for: presentation delay over 30 s, or expanded presentation
-- equal to 0
abbrev pub BadlyPresented : Record → Type 0
BadlyPresented x =
    (x.report.p ≡ 0 → ⊥)
    × ((30 * 2 ^ 32 < delay x.report.received x.report.presented)
    ⊎ (expanded x.report.received x.report.presented ≡ 0))

-- fresh means that neither 15 nor 16 would be given at this reading
abbrev pub StillFresh : Opening → Reading → Record → Type 0
StillFresh o at x = (ReceivedFar at x → ⊥) × (RtpAged o at x → ⊥)

-- ---- who is a member

-- what ends a report's standing: a report or a farewell accepted under its number, or a sweep at which it is not fresh
abbrev pub Ends : Opening → Record → Event → Type 0
Ends o x (got (Call.report y at) number) = (y.source ≡ x.source) × (number ≡ 0)
Ends o x (got (Call.farewell source origin) number) = (source ≡ x.source) × (number ≡ 0)
Ends o x (got (Call.sweep at) number) = StillFresh o at x → ⊥

-- a member stands on the last report accepted under its source number: the history has this very report, number,
-- origin and every field, answered 0, and behind it nothing that ends its standing. That no other origin's report is
-- answered 0 while it stands is line 14, below.
pub record Stands (o : Opening) (h : History) (x : Record) : Type 0 where
  pub before : History
  pub at : Reading
  pub behind : History
  pub reported : h ≡ before ++ (got (Call.report x at) 0 ∷ behind)
  pub last : (e : Event) → Memᴰ e behind → Ends o x e → ⊥

-- these are all that stand, each number once
pub record AreAll (o : Opening) (h : History) (rows : Rows) : Type 0 where
  pub unique : Unique rows
  pub those : (x : Record) → Memᴰ x rows ↔ Stands o h x

-- ---- checks 14, 18 and 19, of the history

-- 14: source number held by another origin
abbrev pub HeldElsewhere : Opening → History → ℕ → Origin → Type 0
HeldElsewhere o h source origin = (x : Record) × Stands o h x × (x.source ≡ source) × (x.origin ≡ origin → ⊥)

-- 19: source number not held
abbrev pub NotHeld : Opening → History → ℕ → Type 0
NotHeld o h source = (x : Record) → Stands o h x → x.source ≡ source → ⊥

-- 18: new member, and 64 places held: all that stand, each number once, are 64
abbrev pub NoRoom : Opening → History → ℕ → Type 0
NoRoom o h source = NotHeld o h source × ((rows : Rows) × AreAll o h rows × (length rows ≡ 64))

-- ---- tallies (document 02, E5)

-- a source number joins: a report under it is accepted, and by the calls before no member had it
abbrev pub Joins : Opening → History → ℕ → Event → Type 0
Joins o before source (got (Call.report x at) number) = (x.source ≡ source) × (number ≡ 0) × NotHeld o before source
Joins o before source (got (Call.farewell other origin) number) = ⊥
Joins o before source (got (Call.sweep at) number) = ⊥

-- what a history has behind the last joining of a number: by no call in it does the number join again
pub record SinceJoined (o : Opening) (h : History) (source : ℕ) (behind : History) : Type 0 where
  pub before : History
  pub joining : Event
  pub whole : h ≡ before ++ (joining ∷ behind)
  pub joins : Joins o before source joining
  pub last :
      (between : History) (e : Event) (later : History) → behind ≡ between ++ (e ∷ later) →
      Joins o (before ++ (joining ∷ between)) source e → ⊥

-- a number was refused with 14, by report or farewell
abbrev pub got_other_origin : ℕ → Event → Bool
got_other_origin source (got (Call.report x at) number) = eqb number other_origin && eqb x.source source
got_other_origin source (got (Call.farewell other origin) number) = eqb number other_origin && eqb other source
got_other_origin source (got (Call.sweep at) number) = false

-- how many times a number was refused with 14 in a history
abbrev pub times_refused : ℕ → History → ℕ
times_refused source h = length (filter (got_other_origin source) h)

-- the tally stops at 4,294,967,295
abbrev pub cut : ℕ → ℕ
cut times = cond (ltb times 4294967295) times 4294967295

-- the tally of a member's number: how many times it was refused with 14 since it last joined, cut at that limit. Of a
-- number that left, the history still tells it, but no member is shown with it (`members`).
abbrev pub TallyIs : Opening → History → (source tally : ℕ) → Type 0
TallyIs o h source tally =
    (behind : History) × SinceJoined o h source behind × (tally ≡ cut (times_refused source behind))

-- ---- the papers' table of refusal numbers

-- a line of it: a number, and when it is given (12 to 19 below, by their names)
pub record Line : Type 1 where
  pub number : ℕ
  pub Applies : Type 0

abbrev pub opening_lines : Opening → List Line
opening_lines o = record { number = bad_opening; Applies = BadOpening o } ∷ []

-- the lines that a call meets, in their order
unfoldable pub lines_of : Opening → History → Call → List Line
lines_of o h (Call.report x at) =
    record { number = other_stream; Applies = OtherStream o x }
    ∷ record { number = other_origin; Applies = HeldElsewhere o h x.source x.origin }
    ∷ record { number = received_far; Applies = ReceivedFar at x }
    ∷ record { number = rtp_aged; Applies = RtpAged o at x }
    ∷ record { number = badly_presented; Applies = BadlyPresented x }
    ∷ record { number = no_room; Applies = NoRoom o h x.source }
    ∷ []
lines_of o h (Call.farewell source origin) =
    record { number = no_member; Applies = NotHeld o h source }
    ∷ record { number = other_origin; Applies = HeldElsewhere o h source origin }
    ∷ []
lines_of o h (Call.sweep at) = []

-- none of these lines applies
unfoldable pub NoneOf : List Line → Type 0
NoneOf [] = Unit
NoneOf (line ∷ lines) = (line.Applies → ⊥) × NoneOf lines

-- behind earlier lines, an answer is a line's number exactly where it applies and none before it does, and 0 exactly
-- where none applies
unfoldable pub MeansBehind : (earlier lines : List Line) → ℕ → Type 0
MeansBehind earlier [] number = (number ≡ 0) ↔ NoneOf earlier
MeansBehind earlier (line ∷ lines) number =
    ((number ≡ line.number) ↔ (NoneOf earlier × line.Applies))
    × MeansBehind (earlier ++ (line ∷ [])) lines number

abbrev pub Means : List Line → ℕ → Type 0
Means lines number = MeansBehind [] lines number

-- ---- twins

-- a call under a member's number from another address or port
abbrev pub FromTwin : Record → Call → Type 0
FromTwin x (Call.report y at) = (y.source ≡ x.source) × (y.origin ≡ x.origin → ⊥)
FromTwin x (Call.farewell source origin) = (source ≡ x.source) × (origin ≡ x.origin → ⊥)
FromTwin x (Call.sweep at) = ⊥

-- a report is refused with 13 where group or media source differ, else with 14; a farewell with 14
abbrev pub TwinGets : Opening → Call → ℕ → Type 0
TwinGets o (Call.report y at) number =
    (OtherStream o y → number ≡ other_stream) × ((OtherStream o y → ⊥) → number ≡ other_origin)
TwinGets o (Call.farewell source origin) number = number ≡ other_origin
TwinGets o (Call.sweep at) number = ⊥

-- a member after a twin's call that got this number: after 14 its tally is one higher, up to the limit; its number,
-- origin and report are as before
abbrev pub tallied : ℕ → Member → Member
tallied number m =
    record { «record» = m.«record»; tally = cond (eqb number other_origin) (cut (m.tally + 1)) m.tally }

-- a twin's call is refused, and the member is shown as before, but for its tally after 14
abbrev pub TwinAltersTallyAlone : Opening → (History → Member → Type 0) → History → Call → ℕ → Type 0
TwinAltersTallyAlone o Shown before call number =
    (m : Member) → Shown before m → FromTwin m.«record» call →
    TwinGets o call number × Shown (before ++ (got call number ∷ [])) (tallied number m)

-- ---- the sentences

-- `Shown g m` says that m is among the members shown after the calls of g: number, origin, report and tally
pub record Letter (o : Opening) (h : History) (Shown : History → Member → Type 0) : Type 0 where
  -- "A member stands on the last report accepted under its source number, from the address that holds it": after any
  -- beginning of the list, shown is whoever so stands, and nobody else
  pub members :
      (before behind : History) → h ≡ before ++ behind → (x : Record) →
      ((tally : ℕ) × Shown before (record { «record» = x; tally = tally })) ↔ Stands o before x
  -- "beside each member, how many times its number was refused with 14, by report or farewell, since it last joined"
  -- (E5). "It goes when the member goes": nobody else is shown.
  pub tallies :
      (before behind : History) → h ≡ before ++ behind → (m : Member) → Shown before m →
      TallyIs o before m.«record».source m.tally
  -- "a twin at another address or port never alters it": not its number, origin or report. Its tally is one higher
  -- after 14, up to the limit.
  pub twins : OfEachCall (TwinAltersTallyAlone o Shown) h
  -- every answer means what the table of refusal numbers says
  pub refusals : OfEachCall (λ before call number. Means (lines_of o before call) number) h
