-- The numbers that a writer refuses with: its message's own, or 10.
use Prim.Native.Nat.{ℕ}
use Rattle.std.specs.Prelude.{Ok, Err}
use Rattle.refusals.specs.declared.RefusalNumber.{RefusalNumber}
use mathlib.Core.Path.{◌≡◌}
use mathlib.Core.List.{List}
use mathlib.Core.Bool.{Bool, true, false, cond}
use mathlib.Core.Logic.{◌⊎◌, inl, inr}
use lib.ListN.{length}
use lib.Dec.{ltb}
use native.Mathlib.Omega.{arith}
use Rattle.buffer.specs.Buffer.{Message, written}

-- Whatever the message and the buffer: the message may not be written, or the buffer is shorter than it.
pub written_numbered :
    (m : Message) (buf : List ℕ) (number : RefusalNumber) → written m buf ≡ Err number
    → (number ≡ m.number) ⊎ (number ≡ RefusalNumber.ShortBuffer)
written_numbered m buf number e = go m.unwritable (ltb (length buf) (length m.bytes)) e
  where
    go :
        (out short : Bool)
        → cond out (Err m.number)
        (cond short (Err RefusalNumber.ShortBuffer) (Ok (length m.bytes)))
        ≡ Err number
        → (number ≡ m.number) ⊎ (number ≡ RefusalNumber.ShortBuffer)
    go true short e = inl (cc)
    go false true e = inr (cc)
    go false false e = let z : ◌≡◌ {A = ℕ} 0 1 = cc in absurd (omega arith)
