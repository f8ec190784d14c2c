-- Laws of a writer's answer and buffer, by what was checked.
use Prim.Native.Nat.{ℕ, ◌≤◌, ◌<◌}
use Rattle.std.specs.Prelude.{Ok, Err}
use Rattle.refusals.specs.declared.RefusalNumber.{RefusalNumber}
use mathlib.Core.Path.{◌≡◌, refl}
use mathlib.Core.List.{List, ◌++◌}
use mathlib.Core.Bool.{true, false}
use lib.ListN.{length, drop}
use borrow.Author.Tests.{lt-ltb, le-ltb}
use Rattle.buffer.specs.Buffer.{Message, WroteMessage}

module _ (m : Message) (buf : List ℕ) where
  pub message_refused : m.unwritable ≡ true → WroteMessage m buf (Err m.number) buf
  message_refused e = rw e (refl, refl)

  module _ (e : m.unwritable ≡ false) where
    pub message_short : length buf < length m.bytes → WroteMessage m buf (Err RefusalNumber.ShortBuffer) buf
    message_short h = rw (e, lt-ltb (length buf) (length m.bytes) h) (refl, refl)

    pub message_written :
        length m.bytes ≤ length buf
        → WroteMessage m buf (Ok (length m.bytes)) (m.bytes ++ drop (length m.bytes) buf)
    message_written h = rw (e, le-ltb (length buf) (length m.bytes) h) (refl, refl)
