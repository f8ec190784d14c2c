-- Laws of the items that are left of a datagram: one comes off the front.
use Prim.Native.Nat.{ℕ, suc, zero, ◌-◌, ◌<◌}
use Rattle.std.specs.Prelude.{Option, Some, None}
use mathlib.Core.Path.{◌≡◌, refl}
use mathlib.Core.Bool.{Bool, true, false}
use mathlib.Core.List.{List, [], ◌∷◌}
use lib.Dec.{eqb}
use native.Mathlib.Omega.{arith}
use borrow.Author.Tests.{eqb-true, eqb-false}
use Rattle.idms.specs.declared.Placed.{Placed}
use Rattle.rtcp.specs.declared.cursor.Cursor.{Cursor}
use Rattle.rtcp.specs.Cursor.{given}
use Rattle.intake.proofs.Laws.{given-item, given_end, given-none}
use Rattle.replay.specs.Steps.{next_in}

pub positive : (n : ℕ) → (n ≡ 0 → ⊥) → 0 < n
positive zero h = absurd (h refl)
positive (suc n) h = omega arith

module _ (d : List ℕ) (left : ℕ) (c : Cursor) where
  -- an item, and no more
  pub item-left :
      (x : Placed) (next : Cursor) → next_in d left c ≡ Some (x, next)
      → (0 < left) × (given left d c ≡ x ∷ given (left - 1) d next)
  unfolding next_in
  item-left x next e = go (eqb left 0) refl
    where
      go : (b : Bool) → eqb left 0 ≡ b → (0 < left) × (given left d c ≡ x ∷ given (left - 1) d next)
      go true b =
          let o : ◌≡◌ {A = Option (Placed × Cursor)} None (Some (x, next)) = rw b at e in
          absurd (cc)
      go false b =
          let some : 0 < left = positive left (eqb-false left 0 b) in
          (some, given-item left (left - 1) d c x next (omega arith) (rw b at e))

  pub none_left : next_in d left c ≡ None → given left d c ≡ []
  unfolding next_in
  none_left e = go (eqb left 0) refl
    where
      go : (b : Bool) → eqb left 0 ≡ b → given left d c ≡ []
      go true b =
          let none : left ≡ 0 = eqb-true left 0 b in
          given-none left d c (omega arith)
      go false b = given_end left d c (rw b at e)
