-- What is left to put never changes what there is in the end.
use Prim.Native.Nat.{◌*◌}
use mathlib.Core.Path.{◌≡◌}
use lib.ListN.{drop}
use Rattle.rtcp.specs.Puts.{puts}
use Rattle.writer.specs.Messages.{bytes32}
use Rattle.writer.proofs.put_words.Given as goal

abbrev pub invariant-loop-i : goal.invariant-loop-i
invariant-loop-i l = puts bytes32 4 l.buf (4 * l.i) (drop l.i l.words) ≡ puts bytes32 4 l.initial.buf 0 l.words
