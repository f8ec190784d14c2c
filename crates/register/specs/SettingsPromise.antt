-- Document 02, E9, as sentences: what each verdict on a settings packet means, and what it tells a venue of its units. A
-- row is a member's.
use Rattle.std.specs.Prelude.{ℕ, ◌*◌, ◌^◌, ◌<◌, ◌⊎◌, ◌↔◌, ◌≡◌, ℤ, pos, ◌+ℤ◌, ◌≤ℤ◌, ◌<ℤ◌}
use Rattle.std.specs.Prelude.{Bool, true, false, Result, Ok, Err}
use mathlib.Core.List.{List, [], ◌∷◌, Memᴰ}
use Rattle.refusals.specs.Refusals.{out_of_range, none_counted, other_stream, received_far, rtp_aged, badly_presented}
use Rattle.refusals.specs.Refusals.{refusal_number}
use Rattle.refusals.specs.declared.RefusalNumber.{RefusalNumber}
use Rattle.idms.specs.declared.Settings.{Settings}
use Rattle.times.specs.Times.{ntp_age, rtp_age, settings_delay}
use Rattle.register.specs.declared.Record.{Record}
use Rattle.register.specs.declared.Reading.{Reading}
use Rattle.register.specs.declared.Opening.{Opening}
use Rattle.register.specs.Register.{Rows}
use Rattle.register.specs.Choosing.{counted, lateness_of, moment}
use Rattle.register.specs.Promise.{AsksNoneEarlier}
use Rattle.register.specs.Letter.{Line, NoneOf, Means}
use Rattle.register.specs.SettingsCheck.{settings_lateness}

-- ---- refusals

-- 17: the packet's delay, presented minus received modulo 2^64, is over 30 s, or presented is 0, or the delay is 0
abbrev pub SettingsBadlyPresented : Settings → Type 0
SettingsBadlyPresented s =
    ((30 * 2 ^ 32 < settings_delay s.received s.presented) ⊎ (s.presented ≡ 0))
    ⊎ (settings_delay s.received s.presented ≡ 0)

-- the lines of the papers' table of refusal numbers that a packet meets, in the request's order: 11 for a slack above
-- 1,966,080, 20 where no row is counted, 13 for another group or media source, 15, 16 and 17
abbrev pub settings_lines : Opening → Reading → Rows → Settings → ℕ → List Line
settings_lines o at rows s slack =
    record { number = out_of_range; Applies = 1966080 < slack }
    ∷ record { number = none_counted; Applies = counted o at rows ≡ [] }
    ∷ record { number = other_stream; Applies = (s.group ≡ o.group) × (s.media ≡ o.media) → ⊥ }
    ∷ record { number = received_far; Applies = 30 * 2 ^ 32 < ntp_age at.ntp s.received }
    ∷ record { number = rtp_aged; Applies = 60 * o.rate < rtp_age at.rtp s.rtp }
    ∷ record { number = badly_presented; Applies = SettingsBadlyPresented s }
    ∷ []

-- a verdict as the papers' number: that of a refusal, and 0 for yes and for no
abbrev pub refusal_of : Result Bool RefusalNumber → ℕ
refusal_of (Ok suited) = 0
refusal_of (Err refused) = refusal_number refused

-- ---- yes and no

-- a counted row of the greatest lateness
abbrev pub IsGreatest : Opening → Reading → Rows → Record → Type 0
IsGreatest o at rows row =
    Memᴰ row (counted o at rows)
    × ((other : Record) → Memᴰ other (counted o at rows) → lateness_of o at other ≤ℤ lateness_of o at row)

-- the packet's lateness is at least that of every counted row, and exceeds the greatest, that of some counted row, by no
-- more than rate × slack × 2^16
pub record Suits (o : Opening) (at : Reading) (rows : Rows) (s : Settings) (slack : ℕ) : Type 0 where
  pub at_least : (row : Record) → Memᴰ row (counted o at rows) → lateness_of o at row ≤ℤ settings_lateness o at s
  pub within_slack :
      (row : Record)
      × IsGreatest o at rows row
      × (settings_lateness o at s ≤ℤ (lateness_of o at row +ℤ pos (o.rate * slack * 2 ^ 16)))

-- under a lateness, a row is asked for every sample earlier than its own report says: for every k, its moment is before
-- the row's
abbrev pub AsksEarlier : Opening → Reading → Record → ℤ → Type 0
AsksEarlier o at row late = (k : ℤ) → moment late k <ℤ moment (lateness_of o at row) k

-- some counted row is
abbrev pub AsksSomeEarlier : Opening → Reading → Rows → ℤ → Type 0
AsksSomeEarlier o at rows late = (row : Record) × Memᴰ row (counted o at rows) × AsksEarlier o at row late

-- a lateness exceeds the greatest by more than rate × slack × 2^16
abbrev pub ExceedsSlack : Opening → Reading → Rows → ℕ → ℤ → Type 0
ExceedsSlack o at rows slack late =
    (row : Record) × IsGreatest o at rows row × ((lateness_of o at row +ℤ pos (o.rate * slack * 2 ^ 16)) <ℤ late)

-- what a verdict says
pub record VerdictMeans (o : Opening) (at : Reading) (rows : Rows) (s : Settings) (slack : ℕ)
    (v : Result Bool RefusalNumber) : Type 0
  where
    -- each number is given exactly where its line applies and none before it does
    pub refusals : Means (settings_lines o at rows s slack) (refusal_of v)
    -- where no line applies, yes exactly if the packet suits
    pub suited : (v ≡ Ok true) ↔ (NoneOf (settings_lines o at rows s slack) × Suits o at rows s slack)
    -- and no exactly if it asks some counted row earlier, or exceeds the slack
    pub unsuited :
        (v ≡ Ok false)
        ↔ (NoneOf (settings_lines o at rows s slack)
        × (AsksSomeEarlier o at rows (settings_lateness o at s)
        ⊎ ExceedsSlack o at rows slack (settings_lateness o at s)))
    -- yes: the packet asks no counted row for a sample earlier
    pub none_earlier : v ≡ Ok true → AsksNoneEarlier o at rows (settings_lateness o at s)
    -- no, with a lateness below a counted row's: that row is asked earlier
    pub below_earlier :
        v ≡ Ok false → (row : Record) → Memᴰ row (counted o at rows) →
        settings_lateness o at s <ℤ lateness_of o at row → AsksEarlier o at row (settings_lateness o at s)
