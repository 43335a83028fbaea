-- `descriptions::ignored_size` meets its contract: the fields up to the place `i` are ignored and have that size.
use Prim.Native.Nat.{◌-◌}
use lib.ListN.{length}
use Rattle.descriptions.proofs.Judging.{Skipped}
use Rattle.descriptions.proofs.ignored_size.Given as goal

abbrev pub invariant-loop-read : goal.invariant-loop-read
invariant-loop-read l = Skipped l.s l.at l.i l.size

abbrev pub decreases-loop-read : goal.decreases-loop-read
decreases-loop-read l = length l.s - l.i
