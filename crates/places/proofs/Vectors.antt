-- The definitions at words of 64 bits: no place held, some, all but one, all.
use mathlib.Core.Bool.{true, false}
use mathlib.Core.Path.{◌≡◌, refl}
use lib.Count.{count_trailing_zeros}
use Rattle.places.specs.Places.{is_held, held_in, lowest_free}

held :
    (is_held 0 1 ≡ true)
    × (is_held 1 1 ≡ false)
    × (is_held 63 0x8000000000000000 ≡ true)
    × (is_held 62 0x8000000000000000 ≡ false)
unfolding is_held
held = (refl, refl, refl, refl)

held_count :
    (held_in 64 0 ≡ 0)
    × (held_in 64 0x17 ≡ 4)
    × (held_in 64 0x8000000000000001 ≡ 2)
    × (held_in 64 0xFFFFFFFFFFFFFFFF ≡ 64)
unfolding is_held held_in
held_count = (refl, refl, refl, refl)

-- 0, 0, 3, 63, and none
lowest :
    (lowest_free 64 0 ≡ 0)
    × (lowest_free 64 0xFFFFFFFFFFFFFFFE ≡ 0)
    × (lowest_free 64 0x17 ≡ 3)
    × (lowest_free 64 0x7FFFFFFFFFFFFFFF ≡ 63)
    × (lowest_free 64 0xFFFFFFFFFFFFFFFF ≡ 64)
unfolding count_trailing_zeros lowest_free
lowest = (refl, refl, refl, refl, refl)
