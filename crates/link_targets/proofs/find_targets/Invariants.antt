-- `link_targets::find_targets` meets its contract: the targets before `from` are found.
use Prim.Native.Nat.{◌-◌, ◌≤◌}
use lib.ListN.{length}
use Rattle.link_targets.specs.Targets.{Targets}
use Rattle.link_targets.proofs.find_targets.Given as goal

abbrev pub invariant-loop-from : goal.invariant-loop-from
invariant-loop-from l = (l.from ≤ length l.names) × Targets l.db l.names l.tos l.from

abbrev pub decreases-loop-from : goal.decreases-loop-from
decreases-loop-from l = length l.names - l.from
