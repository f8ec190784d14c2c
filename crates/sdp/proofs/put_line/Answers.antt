-- The three parts of the line, one behind the other.
use Prim.Native.Nat.{◌+◌, ◌-◌}
use lib.ListN.{length}
use native.Mathlib.Omega.{arith}
use mathlib.Core.Path.{refl}
use Rattle.sdp.specs.Line.{prefix, crlf}
use Rattle.sdp.proofs.Laws.Frame.{three_parts}
use Rattle.sdp.proofs.put_line.Goals as goal

pub returns : goal.returns
returns c =
    let digits = c.args.digits.now in
    let n = length digits in
    rw (c.copy_from_slice.ensures.after, c.copy_from_slice-2.ensures.after, c.copy_from_slice-3.ensures.after)
    (three_parts prefix digits crlf c.args.buf.now (23 + n) (23 + n - 23) (23 + n + 2 - (23 + n))
    refl (omega arith) (omega arith))
