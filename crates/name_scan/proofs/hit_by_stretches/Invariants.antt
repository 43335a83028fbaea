-- `name_scan::hit_by_stretches` meets its contract: each place before the loop's is settled.
use Rattle.std.proofs.Common.{◌-◌, ◌<◌, ◌≤◌, length}
use Rattle.name_places.specs.Marks.{Passed}
use Rattle.name_scan.proofs.hit_by_stretches.Given as goal

abbrev pub invariant-loop-i : goal.invariant-loop-i
invariant-loop-i l = (0 < l.n) × (l.n ≤ 512) × Passed l.s l.name l.at l.i

abbrev pub decreases-loop-i : goal.decreases-loop-i
decreases-loop-i l = length l.s - l.i
