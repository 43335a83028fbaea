-- The database lies in the space.
use Prim.Native.Nat.{◌≤◌}
use lib.ListN.{length}
use Rattle.read_cases.proofs.run.Given as goal

abbrev pub invariant-loop-i : goal.invariant-loop-i
invariant-loop-i l =
    (goal.iterator-loop-i).can_next l.i-iterator × (goal.iterator-loop-i).is_finite l.i-iterator × (l.used ≤ length l.space)
