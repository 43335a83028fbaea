-- `name_scan::any_fit` meets its contract: while no test has held, the places passed are settled.
use Rattle.std.proofs.Common.{◌≡◌, ◌+◌, false}
use Rattle.name_places.specs.Marks.{AllSettled}
use Rattle.name_scan.proofs.any_fit.Given as goal

abbrev pub invariant-loop-k : goal.invariant-loop-k
invariant-loop-k l = l.hit ≡ false → AllSettled l.s l.name l.at (l.at + l.k)
