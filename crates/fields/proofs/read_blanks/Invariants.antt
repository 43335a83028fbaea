-- `fields::read_blanks` meets its contract: what was passed is blank, so the rest decides.
use Prim.Native.Nat.{◌-◌}
use lib.ListN.{length}
use Rattle.fields.proofs.Names.{Blanks}
use Rattle.fields.proofs.read_blanks.Given as goal

abbrev pub invariant-loop-b : goal.invariant-loop-b
invariant-loop-b l = Blanks l.s l.at l.i l.passed

abbrev pub decreases-loop-b : goal.decreases-loop-b
decreases-loop-b l = length l.s - l.i
