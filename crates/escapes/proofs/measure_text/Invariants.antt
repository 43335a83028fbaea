-- `escapes::measure_text` meets its contract: the text stands for `k` bytes up to the place `i`, where so many of its bytes are passed.
use Prim.Native.Nat.{◌-◌}
use lib.ListN.{length}
use Rattle.escapes.proofs.TextSteps.{Measuring}
use Rattle.escapes.proofs.measure_text.Given as goal

abbrev pub invariant-loop-n : goal.invariant-loop-n
invariant-loop-n l = Measuring l.s l.at l.i l.k l.passed

abbrev pub decreases-loop-n : goal.decreases-loop-n
decreases-loop-n l = length l.s - l.i
