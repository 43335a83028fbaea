-- `link_targets::copy_name` meets its contract: `k` bytes of the name are in the buffer, and those from the place `i` on are left.
use Prim.Native.Nat.{◌-◌}
use lib.ListN.{length}
use Rattle.link_targets.proofs.Copying.{Copying}
use Rattle.link_targets.proofs.copy_name.Given as goal

abbrev pub invariant-loop-b : goal.invariant-loop-b
invariant-loop-b l = Copying l.db l.at l.initial.out l.to l.out l.i l.k

abbrev pub decreases-loop-b : goal.decreases-loop-b
decreases-loop-b l = length l.db - l.i
