-- What reduced size changes of check 4 (E2).
use Prim.Native.Nat.{ℕ}
use mathlib.Core.Path.{◌≡◌, refl}
use mathlib.Core.Bool.{Bool, true, false, not, ◌&&◌}
use lib.Dec.{eqb}
use borrow.Author.Tests.{ne_eqb}
use Rattle.packet_checks.specs.declared.kind.PacketType.{PacketType}
use Rattle.packet_checks.specs.Header.{opens, first_is_bad}

-- Where it was not agreed, check 4 is document 01's: the first packet is neither an SR nor an RR.
pub unagreed_first : (p : ℕ) (t : PacketType) → first_is_bad false p t ≡ (eqb p 0 && not (opens t))
unfolding first_is_bad
unagreed_first p t = go (eqb p 0) (not (opens t))
  where
    go : (a b : Bool) → (a && b && true) ≡ (a && b)
    go true true = refl
    go true false = refl
    go false b = refl

-- Where it was agreed, check 4 never applies.
pub agreed_first : (p : ℕ) (t : PacketType) → first_is_bad true p t ≡ false
unfolding first_is_bad
agreed_first p t = go (eqb p 0) (not (opens t))
  where
    go : (a b : Bool) → (a && b && false) ≡ false
    go true true = refl
    go true false = refl
    go false b = refl

-- Behind the first packet it never does.
pub behind_first : (reduced : Bool) (p : ℕ) (t : PacketType) → (p ≡ 0 → ⊥) → first_is_bad reduced p t ≡ false
unfolding first_is_bad
behind_first reduced p t z = rw (ne_eqb p 0 z)
