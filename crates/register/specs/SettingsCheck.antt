-- Document 02, E9: whether a settings packet already read, another maker's, suits our units at a reading, with a slack
-- in units of 2^-16 s. Its sender is not looked at.
use Rattle.std.specs.Prelude.{ℕ, ◌*◌, ◌^◌, Bool, not, cond, ◌&&◌, ltb, eqb, ℤ, pos, ◌+ℤ◌, length, Result, Ok, Err}
use Rattle.std.specs.Int.Signed.{le_z, lt_z}
use Rattle.refusals.specs.declared.RefusalNumber.{RefusalNumber}
use Rattle.idms.specs.declared.Settings.{Settings}
use Rattle.times.specs.Times.{ntp_age, rtp_age, settings_delay, is_far, is_aged, settings_are_badly_presented}
use Rattle.register.specs.declared.Record.{Record}
use Rattle.register.specs.declared.Reading.{Reading}
use Rattle.register.specs.declared.Target.{Target}
use Rattle.register.specs.declared.Opening.{Opening}
use Rattle.register.specs.Register.{Rows, any, is_other_stream}
use Rattle.register.specs.Choosing.{lateness, counted, lateness_of}

-- ---- refusals

-- the greatest slack, in units of 2^-16 s: 30 s
abbrev pub slack_limit : ℕ
slack_limit = 1966080

-- 11 for a larger slack, 20, 13, 15, 16, then 17: the first that applies is the refusal. `none` says that no row is
-- counted.
unfoldable pub settings_checks : Opening → Settings → Reading → (slack : ℕ) → (none : Bool) → Result Unit RefusalNumber
settings_checks o s at slack none =
    cond (ltb slack_limit slack) (Err RefusalNumber.OutOfRange)
    (cond none (Err RefusalNumber.NoneCounted)
    (cond (is_other_stream o s.group s.media) (Err RefusalNumber.OtherStream)
    (cond (is_far at.ntp s.received) (Err RefusalNumber.ReceivedFar)
    (cond (is_aged o.rate at.rtp s.rtp) (Err RefusalNumber.RtpAged)
    (cond (settings_are_badly_presented s.received s.presented) (Err RefusalNumber.BadlyPresented)
    (Ok tt))))))

-- whether no row is counted
abbrev pub is_none_counted : Opening → Reading → Rows → Bool
is_none_counted o at rows = eqb (length (counted o at rows)) 0

-- ---- yes or no

-- the packet's lateness at a reading, by the same formula from its three times. That of an answer (`times_lateness`)
-- differs where presented is 0 alone, which gets 17 here.
abbrev pub settings_lateness : Opening → Reading → Settings → ℤ
settings_lateness o at s =
    lateness o.rate (settings_delay s.received s.presented)
    (ntp_age at.ntp s.received)
    (rtp_age at.rtp s.rtp)

-- by how much it may exceed the greatest lateness: rate × slack × 2^16
abbrev pub allowance : Opening → ℕ → ℕ
allowance o slack = o.rate * slack * 2 ^ 16

-- at least the lateness of every row: no row's is greater. Exceeding the greatest by no more than is allowed: exceeding
-- some row's by no more, the greatest being a row's. False without rows.
unfoldable pub suits : (Record → ℤ) → Rows → ℤ → ℕ → Bool
suits late rows packet allowed =
    not (any (λ row. lt_z packet (late row)) rows) && any (λ row. le_z packet (late row +ℤ pos allowed)) rows

-- a refusal, or else yes or no
unfoldable pub verdict_by : Result Unit RefusalNumber → (suited : Bool) → Result Bool RefusalNumber
verdict_by (Ok passed) suited = Ok suited
verdict_by (Err refused) suited = Err refused

unfoldable pub verdict : Opening → Reading → Rows → Settings → (slack : ℕ) → Result Bool RefusalNumber
verdict o at rows s slack =
    verdict_by (settings_checks o s at slack (is_none_counted o at rows))
    (suits (lateness_of o at) (counted o at rows) (settings_lateness o at s) (allowance o slack))

-- ---- our own choice

-- a target's fields as the settings packet of a sender
abbrev pub target_settings : (sender : ℕ) → Target → Settings
target_settings sender x =
    record {
      sender = sender;
      media = x.media;
      group = x.group;
      received = x.received;
      rtp = x.rtp;
      presented = x.presented;
    }
