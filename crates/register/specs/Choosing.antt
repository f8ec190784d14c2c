-- Choosing (document 01): the counted rows, their lateness, and the one of greatest lateness.
use Rattle.std.specs.Prelude.{ℕ, ◌*◌, ◌^◌, Bool, true, not, cond, ◌&&◌, ◌||◌, [], ◌∷◌, leb, eqb, ℤ, pos, ◌+ℤ◌, ◌*ℤ◌, length}
use Rattle.std.specs.Prelude.{Result, Ok, Err}
use Rattle.std.proofs.Math.IntN.{sub_ℕ}
use Rattle.std.specs.Int.Signed.{le_z, lt_z}
use Rattle.refusals.specs.declared.RefusalNumber.{RefusalNumber}
use Rattle.times.specs.Times.{difference_mod, ntp_age, rtp_age, delay, expanded}
use Rattle.register.specs.declared.Record.{Record}
use Rattle.register.specs.declared.Reading.{Reading}
use Rattle.register.specs.declared.Target.{Target}
use Rattle.register.specs.declared.Opening.{Opening}
use Rattle.register.specs.Register.{Rows, filter, any, presents, fresh_at}

-- lateness, in units of 1/(rate × 2^32) s: rate × (delay − NTP age) + RTP age × 2^32, a signed number. `wait` is the
-- delay here, `age` the NTP age and `ticks` the RTP age.
unfoldable pub lateness : (rate wait age ticks : ℕ) → ℤ
lateness rate wait age ticks = pos rate *ℤ sub_ℕ wait age +ℤ pos (ticks * 2 ^ 32)

-- the fresh rows
abbrev pub fresh : Opening → Reading → Rows → Rows
fresh o at rows = filter (fresh_at o at) rows

-- whether no fresh row has P 1
abbrev pub is_arrival : Opening → Reading → Rows → Bool
is_arrival o at rows = not (any presents (fresh o at rows))

-- the fresh rows whose report has P 1; if there are none, all fresh rows (arrival mode)
abbrev pub counted : Opening → Reading → Rows → Rows
counted o at rows = cond (is_arrival o at rows) (fresh o at rows) (filter presents (fresh o at rows))

-- a counted row's delay. A row with P 0 is counted in arrival mode alone, and its delay is 0.
abbrev pub delay_of : Record → ℕ
delay_of row = cond (presents row) (delay row.report.received row.report.presented) 0

abbrev pub lateness_of : Opening → Reading → Record → ℤ
lateness_of o at row =
    lateness o.rate (delay_of row)
    (ntp_age at.ntp row.report.received)
    (rtp_age at.rtp row.report.rtp)

-- whether a goes before b or is level with it: a greater lateness, or an equal one and a number no higher
abbrev pub precedes : (Record → ℤ) → Record → Record → Bool
precedes late a b = lt_z (late b) (late a) || (le_z (late b) (late a) && leb a.source b.source)

-- whether a row precedes each of a list
unfoldable pub precedes_all : (Record → ℤ) → Record → Rows → Bool
precedes_all late a [] = true
precedes_all late a (b ∷ rows) = precedes late a b && precedes_all late a rows

-- the counted row of greatest lateness, and among equals of the lowest number, as a list: one row where numbers are
-- distinct, and none where nothing is counted
abbrev pub chosen : Opening → Reading → Rows → Rows
chosen o at rows =
    filter (λ row. precedes_all (lateness_of o at) row (counted o at rows)) (counted o at rows)

-- the member's number, the settings fields from its own report (presented expanded, or 0 in arrival mode), and how many
-- were counted
abbrev pub target_of : Record → ℕ → Result Target RefusalNumber
target_of row count =
    Ok
    (record {
      source = row.source;
      group = row.report.group;
      media = row.report.media;
      received = row.report.received;
      rtp = row.report.rtp;
      presented = cond (presents row) (expanded row.report.received row.report.presented) 0;
      counted = count;
    })

-- 20 where nothing is counted
abbrev pub first_of : ℕ → Rows → Result Target RefusalNumber
first_of count [] = Err RefusalNumber.NoneCounted
first_of count (row ∷ rows) = target_of row count

unfoldable pub choice : Opening → Reading → Rows → Result Target RefusalNumber
choice o at rows = first_of (length (counted o at rows)) (chosen o at rows)

-- ---- a target as a lateness

-- the delay of the three times in an answer: presented minus received modulo 2^64, or 0 where presented is 0
abbrev pub delay_between : ℕ → ℕ → ℕ
delay_between received presented = cond (eqb presented 0) 0 (difference_mod 64 presented received)

-- the lateness of the three times in an answer
abbrev pub times_lateness : Opening → Reading → (received rtp presented : ℕ) → ℤ
times_lateness o at received rtp presented =
    lateness o.rate (delay_between received presented) (ntp_age at.ntp received) (rtp_age at.rtp rtp)

-- document 01's lateness of our target
unfoldable pub target_lateness : Opening → Reading → Target → ℤ
target_lateness o at x = times_lateness o at x.received x.rtp x.presented

-- under a lateness, when the sample whose RTP time is k past R is presented, in units after N
abbrev pub moment : ℤ → ℤ → ℤ
moment late k = late +ℤ k *ℤ pos (2 ^ 32)
