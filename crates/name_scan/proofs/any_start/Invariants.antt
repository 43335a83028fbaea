-- `name_scan::any_start` meets its contract: while no test has held, the places passed have no start.
use Rattle.std.proofs.Common.{◌≡◌, ◌+◌, false}
use Rattle.name_scan.specs.Blocks.{Startless}
use Rattle.name_scan.proofs.any_start.Given as goal

abbrev pub invariant-loop-k : goal.invariant-loop-k
invariant-loop-k l = l.hit ≡ false → Startless l.s l.at (l.at + l.k)
