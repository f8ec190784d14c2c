-- Numbers in decimal: bytes of ASCII, the most significant digit first.
use Rattle.std.specs.Prelude.{ℕ, zero, suc, ◌+◌, ◌-◌, ◌*◌, ◌/◌, ◌%◌, ◌^◌, List, [], ◌∷◌, ◌++◌, length}
use Rattle.std.specs.Prelude.{Bool, true, false, cond, ◌&&◌, leb, eqb}
use Prim.Native.Char.{code}

-- DIGIT = %x30-39
unfoldable pub is_digit : ℕ → Bool
is_digit b = leb 0x30 b && leb b 0x39

unfoldable pub are_digits : List ℕ → Bool
are_digits [] = true
are_digits (b ∷ digits) = is_digit b && are_digits digits

-- the byte of the digit 0, which the other nine follow
abbrev pub zero_digit : ℕ
zero_digit = code "0"

-- the number that digits spell
unfoldable pub value_of : List ℕ → ℕ
value_of [] = 0
value_of (b ∷ digits) = (b - zero_digit) * 10 ^ length digits + value_of digits

-- the last digits of a number, as many as are asked for
unfoldable pub digits_of : ℕ → ℕ → List ℕ
digits_of zero n = []
digits_of (suc count) n = digits_of count (n / 10) ++ (zero_digit + n % 10) ∷ []

-- a zero in front of another digit
unfoldable pub has_leading_zero : List ℕ → Bool
has_leading_zero [] = false
has_leading_zero (b ∷ []) = false
has_leading_zero (b ∷ c ∷ digits) = eqb b zero_digit

-- digits with the leading zeros gone, and one digit kept
unfoldable pub without_leading_zeros : List ℕ → List ℕ
without_leading_zeros [] = []
without_leading_zeros (b ∷ []) = b ∷ []
without_leading_zeros (b ∷ c ∷ digits) = cond (eqb b zero_digit) (without_leading_zeros (c ∷ digits)) (b ∷ c ∷ digits)
