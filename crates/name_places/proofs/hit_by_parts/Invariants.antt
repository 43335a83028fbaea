-- `name_places::hit_by_parts` meets its contract: the places before the loop's are passed over.
use Prim.Native.Nat.{◌-◌}
use lib.ListN.{length}
use Rattle.name_places.specs.Marks.{Passed}
use Rattle.name_places.proofs.hit_by_parts.Given as goal

abbrev pub invariant-loop-i : goal.invariant-loop-i
invariant-loop-i l = Passed l.s l.name l.at l.i

abbrev pub decreases-loop-i : goal.decreases-loop-i
decreases-loop-i l = length l.s - l.i
