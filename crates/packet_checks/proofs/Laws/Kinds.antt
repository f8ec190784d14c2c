-- Laws of `kind_of`: the least content that each type carries.
use Prim.Native.Nat.{ℕ, ◌+◌, ◌*◌}
use mathlib.Core.Path.{◌≡◌, refl}
use mathlib.Core.Bool.{Bool, true, false}
use lib.Dec.{eqb}
use borrow.Author.Tests.{eqb-true}
use Rattle.packet_checks.specs.declared.kind.PacketType.{PacketType}
use Rattle.packet_checks.specs.Header.{kind_of}

-- what a type says of the number that it stands for and of the packet's count
abbrev pub Carries : ℕ → ℕ → PacketType → Type 0
Carries type number (PacketType.Sr least) = least ≡ 28 + 24 * number
Carries type number (PacketType.Rr least) = least ≡ 8 + 24 * number
Carries type number (PacketType.Bye least) = least ≡ 4 + 4 * number
Carries type number (PacketType.Xr least) = least ≡ 8
Carries type number (PacketType.Settings exact) = (exact ≡ 36) × (type ≡ 211)
Carries type number PacketType.Other = type ≡ type

pub kind_carries : (type number : ℕ) → Carries type number (kind_of type number)
unfolding kind_of
kind_carries type number =
    go (eqb type 200) (eqb type 201) (eqb type 203) (eqb type 207) (eqb type 211) refl refl refl refl refl
  where
    go :
        (a b c d e : Bool) → eqb type 200 ≡ a → eqb type 201 ≡ b → eqb type 203 ≡ c → eqb type 207 ≡ d → eqb type 211 ≡ e
        → Carries type number (kind_of type number)
    go true b c d e f g h i j = rw (f, kind_of) refl
    go false true c d e f g h i j = rw (f, g, kind_of) refl
    go false false true d e f g h i j = rw (f, g, h, kind_of) refl
    go false false false true e f g h i j = rw (f, g, h, i, kind_of) refl
    go false false false false true f g h i j = rw (f, g, h, i, j, kind_of) (refl, eqb-true type 211 j)
    go false false false false false f g h i j = rw (f, g, h, i, j, kind_of) refl
