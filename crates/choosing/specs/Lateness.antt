-- Lateness as the code holds it: a number that is not below 0.
use Rattle.std.specs.Prelude.{ℕ, ◌+◌, ◌-◌, ◌*◌, ◌^◌, ◌<◌, Bool, cond, ◌&&◌, ◌||◌, [], ◌∷◌, ◌≡◌, ltb, leb}
use Rattle.std.specs.Prelude.{ℤ, pos, get_or, Option, Some, None}
use Rattle.idms.specs.declared.Settings.{Settings}
use Rattle.times.specs.Times.{ntp_age, rtp_age, settings_delay, thirty_seconds}
use Rattle.register.specs.declared.Record.{Record}
use Rattle.register.specs.declared.Reading.{Reading}
use Rattle.register.specs.Register.{Rows}
use Rattle.register.specs.Choosing.{delay_of}
use Rattle.choosing.specs.Latest.{latest_of}
use Rattle.choosing.specs.declared.Candidate.{Candidate}
use Rattle.places.specs.Places.{is_free}
use Rattle.choosing.specs.Marked.{marked_at, nowhere}

-- lateness and 30 s more, which for a fresh row is not below 0: rate × (delay + 30 s − NTP age) + RTP age × 2^32
unfoldable pub biased : (rate wait age ticks : ℕ) → ℕ
biased rate wait age ticks = rate * (wait + thirty_seconds - age) + ticks * 2 ^ 32

abbrev pub biased_of : ℕ → Reading → Record → ℕ
biased_of rate at row =
    biased rate (delay_of row)
    (ntp_age at.ntp row.report.received)
    (rtp_age at.rtp row.report.rtp)

-- that of a settings packet
abbrev pub biased_settings : ℕ → Reading → Settings → ℕ
biased_settings rate at s =
    biased rate (settings_delay s.received s.presented)
    (ntp_age at.ntp s.received)
    (rtp_age at.rtp s.rtp)

abbrev pub biased_late : ℕ → Reading → Record → ℤ
biased_late rate at row = pos (biased_of rate at row)

-- ---- the latest

-- the row at a place, as a candidate
abbrev pub candidate_at : ℕ → Reading → ℕ → Record → Candidate
candidate_at rate at place row = record { place = place; late = biased_of rate at row; source = row.source }

-- whether a first candidate goes before the second: `precedes` on what the code holds
abbrev pub stays_latest : Candidate → Candidate → Bool
stays_latest a b = ltb b.late a.late || (leb b.late a.late && leb a.source b.source)

-- the later of two candidates, if there is a first, where a word's lowest bit marks the second
abbrev pub latest_next : ℕ → Option Candidate → Candidate → Option Candidate
latest_next word None b = cond (is_free word) None (Some b)
latest_next word (Some a) b = Some (cond (is_free word || stays_latest a b) a b)

-- the latest of the members that a word marks, if there is one, as a candidate
abbrev pub IsLatest : ℕ → Reading → ℕ → Rows → Option Candidate → Type 0
IsLatest rate at word records None = latest_of (biased_late rate at) (marked_at word records) ≡ None
IsLatest rate at word records (Some a) =
    (a.place < 64)
    × (a ≡ candidate_at rate at a.place (get_or records a.place nowhere))
    × (latest_of (biased_late rate at) (marked_at word records) ≡ Some (get_or records a.place nowhere))

-- ---- the greatest

-- the greatest of a number and those of rows
unfoldable pub greatest : (Record → ℕ) → ℕ → Rows → ℕ
greatest number most [] = most
greatest number most (row ∷ rows) = greatest number (cond (leb (number row) most) most (number row)) rows
