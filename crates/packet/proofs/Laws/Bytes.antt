-- How large the numbers are that bytes spell, and where a source is read.
use Prim.Native.Nat.{ℕ, ◌+◌, ◌-◌, ◌^◌, ◌≤◌, ◌<◌}
use Rattle.std.specs.Prelude.{Some, None}
use mathlib.Core.Path.{◌≡◌, refl}
use mathlib.Core.List.{List}
use mathlib.Core.Bool.{Bool, true, false, cond, ◌||◌}
use lib.ListN.{length}
use lib.Dec.{ltb}
use native.Mathlib.Omega.{arith}
use borrow.Author.Tests.{le-ltb, ltb-false}
use Rattle.packet.specs.Answers.{source_is}
use Rattle.packet.specs.Bytes.{AreBytes, be32, be64}

-- a word is below 2^32
pub be32_bound : (d : List ℕ) (at : ℕ) → AreBytes d → be32 d at < 2 ^ 32
unfolding be32
be32_bound d at h = omega (arith, h at, h (at + 1), h (at + 2), h (at + 3))

pub be64_bound : (d : List ℕ) (at : ℕ) → AreBytes d → be64 d at < 2 ^ 64
unfolding be64
be64_bound d at h = omega (arith, be32_bound d at h, be32_bound d (at + 4) h)

-- ---- source_is

pub source_inside :
    (d : List ℕ) (stop at : ℕ) → stop ≤ length d → 4 ≤ stop - at → source_is d stop at ≡ Some (be32 d at)
unfolding source_is
source_inside d stop at h more = rw (le-ltb (length d) stop h, le-ltb (stop - at) 4 more)

-- what an answer says of the place
pub source_read :
    (d : List ℕ) (stop at source : ℕ) → source_is d stop at ≡ Some source
    → (stop ≤ length d) × (4 ≤ stop - at) × (source ≡ be32 d at)
unfolding source_is
source_read d stop at source e = go (ltb (length d) stop) refl (ltb (stop - at) 4) refl e
  where
    go :
        (s : Bool) → ltb (length d) stop ≡ s → (t : Bool) → ltb (stop - at) 4 ≡ t
        → cond (s || t) None (Some (be32 d at)) ≡ Some source
        → (stop ≤ length d) × (4 ≤ stop - at) × (source ≡ be32 d at)
    go true s t f e = let z : ◌≡◌ {A = ℕ} 0 1 = cc in absurd (omega arith)
    go false s true f e = let z : ◌≡◌ {A = ℕ} 0 1 = cc in absurd (omega arith)
    go false s false f e = (ltb-false (length d) stop s, ltb-false (stop - at) 4 f, cc)
