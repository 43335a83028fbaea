-- `name_scan::list_rest` meets its contract: the blocks passed are listed.
use Rattle.name_scan.specs.Blocks.{StartsListed}
use Rattle.name_scan.proofs.list_rest.Given as goal

abbrev pub invariant-loop-i : goal.invariant-loop-i
invariant-loop-i l = StartsListed l.s l.at l.list l.listed l.i
