-- Times (document 01, "Times", and the ages of "The member table"). A full time is 64 bits, in units of 2^-32 s, and
-- wraps; the short presented time has 32 bits, in units of 2^-16 s; an RTP time has 32 bits.
use Rattle.std.specs.Prelude.{ℕ, ◌+◌, ◌-◌, ◌*◌, ◌/◌, ◌%◌, ◌^◌, Bool, not, cond, ◌&&◌, ◌||◌, ltb, eqb}

-- ---- ages

-- (a − b) modulo 2^width, for numbers of that width
unfoldable pub difference_mod : (width a b : ℕ) → ℕ
difference_mod width a b = (a + 2 ^ width - b) % 2 ^ width

-- NTP age: (N − received) modulo 2^64
abbrev pub ntp_age : ℕ → ℕ → ℕ
ntp_age n received = difference_mod 64 n received

-- RTP age: (R − RTP) modulo 2^32
abbrev pub rtp_age : ℕ → ℕ → ℕ
rtp_age r rtp = difference_mod 32 r rtp

-- ---- presentation

-- document 01's M: bits 16 to 47 of received, the number of its slot of 2^-16 s
abbrev pub middle : ℕ → ℕ
middle received = received / 2 ^ 16 % 2 ^ 32

-- document 01's step, in units of 2^-16 s: (presented − M) modulo 2^32
unfoldable pub step : ℕ → ℕ → ℕ
step received presented = difference_mod 32 presented (middle received)

-- the presentation before wrapping: received with its low 16 bits cleared, plus step × 2^16; at a step of 0, received
-- plus one unit of 2^-32 s (document 02, E3), since presented is greater than received
unfoldable pub unwrapped : ℕ → ℕ → ℕ
unwrapped received presented =
    cond (eqb (step received presented) 0) (received + 1)
    (received / 2 ^ 16 * 2 ^ 16 + step received presented * 2 ^ 16)

-- the expanded presentation, modulo 2^64
unfoldable pub expanded : ℕ → ℕ → ℕ
expanded received presented = unwrapped received presented % 2 ^ 64

-- the delay: expanded minus received, before wrapping
unfoldable pub delay : ℕ → ℕ → ℕ
delay received presented = unwrapped received presented - received

-- the delay of a settings packet: presented minus received, modulo 2^64 (document 02, E9). The packet carries all 64
-- bits of its presented time, so nothing is expanded.
abbrev pub settings_delay : ℕ → ℕ → ℕ
settings_delay received presented = difference_mod 64 presented received

-- ---- checks 15, 16 and 17

-- as a full time
abbrev pub thirty_seconds : ℕ
thirty_seconds = 30 * 2 ^ 32

-- 15: received time not within 30 s at or before the sender's reading
abbrev pub is_far : ℕ → ℕ → Bool
is_far n received = ltb thirty_seconds (ntp_age n received)

-- 16: RTP age above 60 seconds of media clock
abbrev pub is_aged : ℕ → ℕ → ℕ → Bool
is_aged rate r rtp = ltb (60 * rate) (rtp_age r rtp)

-- 17, of a report with P 1: presentation delay over 30 s, or expanded presentation equal to 0
abbrev pub is_badly_presented : ℕ → ℕ → Bool
is_badly_presented received presented =
    ltb thirty_seconds (delay received presented) || eqb (expanded received presented) 0

-- 17, of a check of settings: delay over 30 s, or presented 0, which means empty, or a delay of 0
abbrev pub settings_are_badly_presented : ℕ → ℕ → Bool
settings_are_badly_presented received presented =
    ltb thirty_seconds (settings_delay received presented)
    || eqb presented 0
    || eqb (settings_delay received presented) 0

-- fresh: neither 15 nor 16 would be given at this reading
abbrev pub is_fresh : ℕ → ℕ → ℕ → ℕ → ℕ → Bool
is_fresh rate n r received rtp = not (is_far n received) && not (is_aged rate r rtp)
