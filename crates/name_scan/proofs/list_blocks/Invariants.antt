-- `name_scan::list_blocks` meets its contract: the blocks passed are listed.
use Rattle.std.proofs.Common.{◌*◌}
use Rattle.name_scan.specs.Blocks.{StartsListed}
use Rattle.name_scan.proofs.list_blocks.Given as goal

abbrev pub invariant-loop-j : goal.invariant-loop-j
invariant-loop-j l = StartsListed l.s l.at l.list l.count (l.j * 4)
