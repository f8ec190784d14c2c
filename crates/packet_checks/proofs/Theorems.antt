-- The number that an IDMS block is refused with (document 01, "Refusal numbers").
use Prim.Native.Nat.{ℕ}
use Rattle.std.specs.Prelude.{Ok, Err}
use mathlib.Core.Path.{◌≡◌, refl, ap, ◌∙◌}
use mathlib.Core.Bool.{Bool, true, false, cond}
use native.Mathlib.Omega.{arith}
use Rattle.refusals.specs.declared.RefusalNumber.{RefusalNumber}
use Rattle.refusals.specs.Refusals.{refusal_number}
use Rattle.packet_checks.specs.declared.block.Block.{Block}
use Rattle.packet_checks.specs.IdmsBlock.{idms_length_is_bad, role_reports, idms_block}

-- 7
pub idms_numbered :
    (words role : ℕ) (number : RefusalNumber) → idms_block words role ≡ Err number → refusal_number number ≡ 7
idms_numbered words role number e = go (idms_length_is_bad words) (role_reports role) _ e refl
  where
    go :
        (bad reports : Bool) (given : RefusalNumber)
        → cond bad (Err given) (cond reports (Ok Block.Report) (Ok (Block.Skipped 32))) ≡ Err number
        → refusal_number given ≡ 7 → refusal_number number ≡ 7
    go true reports given e seven = let same : number ≡ given = cc in ap refusal_number same ∙ seven
    go false true given e seven = let z : ◌≡◌ {A = ℕ} 0 1 = cc in absurd (omega arith)
    go false false given e seven = let z : ◌≡◌ {A = ℕ} 0 1 = cc in absurd (omega arith)
