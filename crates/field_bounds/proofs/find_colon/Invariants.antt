-- `field_bounds::find_colon` meets its contract: what was passed is `length` bytes of the field, none a colon or a newline.
use Prim.Native.Nat.{◌-◌}
use lib.ListN.{length}
use Rattle.field_bounds.specs.Answers.{Passed}
use Rattle.field_bounds.proofs.find_colon.Given as goal

abbrev pub invariant-loop-b : goal.invariant-loop-b
invariant-loop-b l = Passed l.s l.at l.i l.length

abbrev pub decreases-loop-b : goal.decreases-loop-b
decreases-loop-b l = length l.s - l.i
