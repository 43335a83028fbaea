-- `link_rings::list_nexts` meets its contract: the links before `i` have their next ones.
use Rattle.link_rings.specs.Rings.{Nexts}
use Rattle.link_rings.proofs.list_nexts.Given as goal

abbrev pub invariant-loop-i : goal.invariant-loop-i
invariant-loop-i l = Nexts l.ats l.tos l.nexts l.i
