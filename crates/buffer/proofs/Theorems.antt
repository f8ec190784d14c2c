-- What every writer leaves in the buffer (document 01, "Refusal numbers"; document 02, E1): where it wrote, the message
-- and behind it what was there; where it refused, what was there.
use Prim.Native.Nat.{ℕ}
use Rattle.std.specs.Prelude.{Ok, Err}
use Rattle.refusals.specs.declared.RefusalNumber.{RefusalNumber}
use mathlib.Core.Path.{◌≡◌, refl}
use mathlib.Core.List.{List, ◌++◌}
use mathlib.Core.Bool.{Bool, true, false}
use lib.ListN.{length, take, drop}
use lib.Dec.{ltb}
use lib.Seq.{take-append_seam, drop-append_seam}
use native.Mathlib.Omega.{arith}
use Rattle.buffer.specs.Buffer.{Message, WroteMessage}

module _ (m : Message) (buf buf' : List ℕ) where
  -- As many bytes as it answers are the message, and nothing behind them is changed.
  pub written_front :
      (count : ℕ) → WroteMessage m buf (Ok count) buf'
      → (m.unwritable ≡ false) × (take count buf' ≡ m.bytes) × (drop count buf' ≡ drop count buf)
  written_front count w = go m.unwritable refl (ltb (length buf) (length m.bytes)) refl
    where
      go :
          (out : Bool) → m.unwritable ≡ out → (short : Bool) → ltb (length buf) (length m.bytes) ≡ short
          → (m.unwritable ≡ false) × (take count buf' ≡ m.bytes) × (drop count buf' ≡ drop count buf)
      go true e short h =
          let answer : Ok count ≡ Err m.number = rw e at w.0 in
          let z : ◌≡◌ {A = ℕ} 0 1 = cc in
          absurd (omega arith)
      go false e true h =
          let answer : Ok count ≡ Err RefusalNumber.ShortBuffer = rw (e, h) at w.0 in
          let z : ◌≡◌ {A = ℕ} 0 1 = cc in
          absurd (omega arith)
      go false e false h =
          let answer : Ok count ≡ Ok (length m.bytes) = rw (e, h) at w.0 in
          let after : buf' ≡ m.bytes ++ drop (length m.bytes) buf = rw (e, h) at w.1 in
          let size : count ≡ length m.bytes = cc in (
            e,
            rw (size, after) (take-append_seam m.bytes (drop (length m.bytes) buf)),
            rw (size, after) (drop-append_seam m.bytes (drop (length m.bytes) buf)),
          )

  -- A refusal writes nothing.
  pub refused_nothing : (number : RefusalNumber) → WroteMessage m buf (Err number) buf' → buf' ≡ buf
  refused_nothing number w = go m.unwritable refl (ltb (length buf) (length m.bytes)) refl
    where
      go :
          (out : Bool) → m.unwritable ≡ out → (short : Bool) → ltb (length buf) (length m.bytes) ≡ short
          → buf' ≡ buf
      go true e short h = rw e at w.1
      go false e true h = rw (e, h) at w.1
      go false e false h =
          let answer : Err number ≡ Ok (length m.bytes) = rw (e, h) at w.0 in
          let z : ◌≡◌ {A = ℕ} 0 1 = cc in
          absurd (omega arith)
