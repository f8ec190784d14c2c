-- The numbers and places that a packet and a block are refused with (document 01, "Refusal numbers").
use Prim.Native.Nat.{ℕ, ◌≤◌}
use Rattle.refusals.specs.declared.RefusalNumber.{RefusalNumber}
use Rattle.refusals.specs.Refusals.{refusal_number}
use mathlib.Core.Path.{◌≡◌, refl}
use mathlib.Core.List.{List}
use mathlib.Core.Bool.{Bool}
use native.Mathlib.Omega.{arith}
use Rattle.packet.specs.Packet.{head_check}
use Rattle.packet.specs.Report.{block_check}
use Rattle.packet.proofs.Laws.Checks.{Refuses}
use Rattle.packet.proofs.Laws.Packet.{head_refuses}
use Rattle.packet.proofs.Laws.Blocks.{block_refuses}

-- a refusal's number is one of these, and its place is a packet's or a block's start
abbrev pub Numbered : ℕ → ℕ → ℕ → RefusalNumber → ℕ → Type 0
Numbered least most start number place =
    (least ≤ refusal_number number) × (refusal_number number ≤ most) × (place ≡ start)

-- 2 to 5 with the packet's start
pub head_numbered :
    (reduced : Bool) (d : List ℕ) (p : ℕ)
    → Refuses (Numbered 2 5 p) (head_check reduced d p)
head_numbered reduced d p =
    head_refuses (Numbered 2 5 p) reduced d p
    (omega arith, omega arith, refl)
    (omega arith, omega arith, refl)
    (omega arith, omega arith, refl)
    (omega arith, omega arith, refl)

-- 6 or 7 with the block's start
pub block_numbered :
    (d : List ℕ) (stop at : ℕ)
    → Refuses (Numbered 6 7 at) (block_check d stop at)
block_numbered d stop at =
    block_refuses (Numbered 6 7 at) d stop at
    (omega arith, omega arith, refl)
    (omega arith, omega arith, refl)
