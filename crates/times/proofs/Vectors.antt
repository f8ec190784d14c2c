-- The definitions at the papers' cases P1, P2, P6, P7, P8, P9 and P10, and at those of E3.
use Prim.Native.Nat.{ℕ, ◌+◌, ◌-◌, ◌*◌, ◌^◌}
use mathlib.Core.Path.{◌≡◌, refl}
use mathlib.Core.Bool.{true, false}
use Rattle.times.specs.Times.{difference_mod, step, unwrapped, expanded, delay, ntp_age, rtp_age}
use Rattle.times.specs.Times.{is_far, is_aged, is_badly_presented}

-- whole seconds as a full time
abbrev seconds : ℕ → ℕ
seconds n = n * 2 ^ 32

-- P1 and P2: delays of 0.5 s and 0.75 s, ages of 1 s and 2 s
p1_p2 :
    (delay (seconds 999) 0x03E78000 ≡ 2 ^ 31)
    × (delay (seconds 998) 0x03E6C000 ≡ 3 * 2 ^ 30)
    × (ntp_age (seconds 1000) (seconds 999) ≡ 2 ^ 32)
    × (rtp_age 9000000 8910000 ≡ 90000)
    × (ntp_age (seconds 1000) (seconds 998) ≡ 2 * 2 ^ 32)
    × (rtp_age 9000000 8820000 ≡ 180000)
unfolding step unwrapped delay difference_mod
p1_p2 = (refl, refl, refl, refl, refl, refl)

-- P6 and P7: received before the wrap, N and the presentation behind it; presented 0 expands to 0
p6_p7 :
    (ntp_age (seconds 1) 0xFFFFFFFF00000000 ≡ seconds 2)
    × (delay 0xFFFFFFFF00000000 0x00004000 ≡ seconds 1 + 2 ^ 30)
    × (expanded 0xFFFFFFFF00000000 0x00004000 ≡ 0x40000000)
    × (is_badly_presented 0xFFFFFFFF00000000 0x00004000 ≡ false)
    × (is_badly_presented 0xFFFFFFFF00000000 0 ≡ true)
unfolding step unwrapped delay expanded difference_mod
p6_p7 = (refl, refl, refl, refl, refl)

-- P8: received 970 s passes 15, one unit earlier is refused; N passes, N plus one unit is refused
p8 :
    (is_far (seconds 1000) (seconds 970) ≡ false)
    × (is_far (seconds 1000) (seconds 970 - 1) ≡ true)
    × (is_far (seconds 1000) (seconds 1000) ≡ false)
    × (is_far (seconds 1000) (seconds 1000 + 1) ≡ true)
unfolding difference_mod
p8 = (refl, refl, refl, refl)

-- P9: RTP 3,600,000 passes 16; 3,599,999 and 9,000,001 are refused
p9 :
    (is_aged 90000 9000000 3600000 ≡ false)
    × (is_aged 90000 9000000 3599999 ≡ true)
    × (is_aged 90000 9000000 9000001 ≡ true)
unfolding difference_mod
p9 = (refl, refl, refl)

-- P10: a delay of 30 s passes 17, one unit of 2^-16 s more does not
p10 :
    (is_badly_presented (seconds 999) 0x04050000 ≡ false)
    × (is_badly_presented (seconds 999) 0x04050001 ≡ true)
unfolding step unwrapped delay expanded difference_mod
p10 = (refl, refl)

-- E3: received in the first and the last unit of the presented slot, and at the last two full times
one_slot :
    (delay (seconds 999) 0x03E70000 ≡ 1)
    × (expanded (seconds 999) 0x03E70000 ≡ seconds 999 + 1)
    × (is_badly_presented (seconds 999) 0x03E70000 ≡ false)
    × (delay (seconds 999 + 65535) 0x03E70000 ≡ 1)
    × (expanded (seconds 999 + 65535) 0x03E70000 ≡ seconds 999 + 65536)
    × (expanded 0xFFFFFFFFFFFFFFFE 0xFFFFFFFF ≡ 0xFFFFFFFFFFFFFFFF)
    × (delay 0xFFFFFFFFFFFFFFFF 0xFFFFFFFF ≡ 1)
    × (expanded 0xFFFFFFFFFFFFFFFF 0xFFFFFFFF ≡ 0)
    × (is_badly_presented 0xFFFFFFFFFFFFFFFF 0xFFFFFFFF ≡ true)
unfolding step unwrapped delay expanded difference_mod
one_slot = (refl, refl, refl, refl, refl, refl, refl, refl, refl)
