-- In the end no word is left to put.
use Prim.Native.Nat.{◌*◌}
use mathlib.Core.Path.{sym, ap, ◌∙◌}
use lib.ListN.{drop_of_length-le}
use native.Mathlib.Omega.{arith}
use Rattle.rtcp.specs.Puts.{puts}
use Rattle.rtcp.proofs.Laws.Puts.{puts_front}
use Rattle.writer.proofs.Laws.Messages.{length-bytes32}
use Rattle.writer.specs.Messages.{bytes32}
use Rattle.writer.proofs.put_words.Goals as goal

pub returns : goal.returns
returns c =
    let words = c.args.words.now in
    sym (ap (puts bytes32 4 c.loop-i.buf (4 * c.loop-i.i)) (drop_of_length-le words c.loop-i-test.false))
    ∙ c.loop-i.invariant
    ∙ puts_front bytes32 4 length-bytes32 words c.args.buf.now (omega (arith, c.requires))
