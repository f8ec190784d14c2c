-- The example of RFC 7272, section 10, and the ends of document 02's ranges (E1), computed from the definitions.
use Prim.Native.Nat.{ℕ}
use Rattle.std.specs.Prelude.{Ok}
use Rattle.refusals.specs.declared.RefusalNumber.{RefusalNumber}
use Rattle.refusals.specs.Refusals.{IsRefused}
use mathlib.Core.List.{List, []}
use mathlib.Core.Path.{◌≡◌, refl}
use Rattle.buffer.specs.Buffer.{written}
use Rattle.sdp.specs.Digits.{is_digit, are_digits, value_of, digits_of, without_leading_zeros}
use Rattle.sdp.specs.Line.{ascii, group_line, group_message}
use Rattle.sdp.specs.Answers.{starts_with, keeps_grammar, group_in}

pub example_read : group_in (ascii "a=rtcp-idms:sync-group=42\r\n") ≡ Ok 42
unfolding is_digit are_digits value_of starts_with keeps_grammar group_in
example_read = refl

pub example_written : group_line 42 ≡ ascii "a=rtcp-idms:sync-group=42\r\n"
unfolding digits_of without_leading_zeros
example_written = refl

pub empty_group_written : group_line 0 ≡ ascii "a=rtcp-idms:sync-group=0\r\n"
unfolding digits_of without_leading_zeros
empty_group_written = refl

pub greatest-written : group_line 4294967294 ≡ ascii "a=rtcp-idms:sync-group=4294967294\r\n"
unfolding digits_of without_leading_zeros
greatest-written = refl

pub zeros-read : group_in (ascii "a=rtcp-idms:sync-group=0000000042\r\n") ≡ Ok 42
unfolding is_digit are_digits value_of starts_with keeps_grammar group_in
zeros-read = refl

pub reserved_refused : IsRefused (group_in (ascii "a=rtcp-idms:sync-group=4294967295\r\n")) RefusalNumber.BadGroup 22
unfolding is_digit are_digits value_of starts_with keeps_grammar group_in
reserved_refused = (refl, refl)

pub eleven_zeros_refused :
    IsRefused (group_in (ascii "a=rtcp-idms:sync-group=00000000000\r\n")) RefusalNumber.BadGroup 22
unfolding is_digit are_digits value_of starts_with keeps_grammar group_in
eleven_zeros_refused = (refl, refl)

pub line_feed_refused : IsRefused (group_in (ascii "a=rtcp-idms:sync-group=42\n")) RefusalNumber.BadLine 21
unfolding is_digit are_digits value_of starts_with keeps_grammar group_in
line_feed_refused = (refl, refl)

pub nothing_refused : IsRefused (group_in []) RefusalNumber.BadLine 21
unfolding starts_with keeps_grammar group_in
nothing_refused = (refl, refl)

-- the writer, whatever the buffer
pub reserved_unwritten :
    (buf : List ℕ) → IsRefused (written (group_message 4294967295) buf) RefusalNumber.BadGroup 22
reserved_unwritten buf = (refl, refl)
