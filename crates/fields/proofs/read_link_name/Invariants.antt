-- `fields::read_link_name` meets its contract: `k` good bytes were passed up to the place `i`, so the rest decides.
use Prim.Native.Nat.{◌-◌}
use lib.ListN.{length}
use Rattle.fields.proofs.Names.{Named}
use Rattle.fields.proofs.read_link_name.Given as goal

abbrev pub invariant-loop-b : goal.invariant-loop-b
invariant-loop-b l = Named l.s l.at l.i l.k

abbrev pub decreases-loop-b : goal.decreases-loop-b
decreases-loop-b l = length l.s - l.i
