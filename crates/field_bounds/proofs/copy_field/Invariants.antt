-- `field_bounds::copy_field` meets its contract: `k` bytes of the field are in the buffer, and those from the place `i` on are left.
use Prim.Native.Nat.{◌-◌}
use lib.ListN.{length}
use Rattle.field_bounds.proofs.Copying.{Copying}
use Rattle.field_bounds.proofs.copy_field.Given as goal

abbrev pub invariant-loop-b : goal.invariant-loop-b
invariant-loop-b l = Copying l.s l.at l.initial.out l.to l.out l.i l.k

abbrev pub decreases-loop-b : goal.decreases-loop-b
decreases-loop-b l = length l.s - l.i
