-- `escapes::decode_text` meets its contract: the `k` bytes that the text stands for up to the place `i` are in the buffer.
use Prim.Native.Nat.{◌-◌}
use lib.ListN.{length}
use Rattle.escapes.proofs.TextSteps.{Decoding}
use Rattle.escapes.proofs.decode_text.Given as goal

abbrev pub invariant-loop-b : goal.invariant-loop-b
invariant-loop-b l = Decoding l.s l.at l.initial.out l.out l.i l.k

abbrev pub decreases-loop-b : goal.decreases-loop-b
decreases-loop-b l = length l.s - l.i
