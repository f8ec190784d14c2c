-- Laws of the messages' bytes, and of the fields that may be written.
use Prim.Native.Nat.{ℕ, ◌<◌}
use mathlib.Core.Path.{◌≡◌, refl}
use mathlib.Core.Bool.{false, not, ◌&&◌, ◌||◌}
use mathlib.Mathlib.Data.Bool.Basic.{or-eq-false-eq-eq-false-and-eq-false}
use lib.ListN.{length}
use native.Mathlib.Omega.{arith}
use lib.Dec.{ltb, eqb}
use borrow.Author.Tests.{ltb-false, eqb-true, not-false}
use Rattle.idms.specs.declared.Report.{Report}
use Rattle.writer.specs.Messages.{bytes32, report_is_unwritable}

-- ---- bytes32

pub length-bytes32 : (w : ℕ) → length (bytes32 w) ≡ 4
length-bytes32 w = refl

-- ---- report_is_unwritable

pub record Writable (r : Report) : Type 0 where
  pub payload : r.payload_type < 128
  pub group : eqb r.group 4294967295 ≡ false
  pub presented : (not r.p && not (eqb r.presented 0)) ≡ false

pub writable : (r : Report) → report_is_unwritable r ≡ false → Writable r
unfolding report_is_unwritable
writable r h =
    let payload = ltb 127 r.payload_type in
    let group = eqb r.group 4294967295 in
    let presented = not r.p && not (eqb r.presented 0) in
    let rest : _ = (or-eq-false-eq-eq-false-and-eq-false (payload || group) presented).0 h in
    let both : _ = (or-eq-false-eq-eq-false-and-eq-false payload group).0 rest.0 in
    record {
      payload = omega (arith, ltb-false 127 r.payload_type both.0);
      group = both.1;
      presented = rest.1;
    }

-- where P is 0, presented is 0
pub writable_presented : (r : Report) → report_is_unwritable r ≡ false → r.p ≡ false → r.presented ≡ 0
writable_presented r h e =
    let known : _ = (writable r h).presented in
    eqb-true r.presented 0 (not-false (eqb r.presented 0) (rw e at known))
