-- `name_scan::hit_by_stretches` meets its contract: each place before the loop's is settled.
use Rattle.std.proofs.Common.{arith}
use Rattle.std.proofs.lemmas.Grind.{common_steps}
use Rattle.name_places.proofs.Places.{passed-join}
use Rattle.name_scan.proofs.hit_by_stretches.Goals as goal

pub returns-then-found-i : goal.returns-then-found-i
returns-then-found-i c = passed-join c.loop-i.invariant.2 c.hit_in_stretch-found.ensures.passed

pub loop-i-preserved : goal.loop-i-preserved
loop-i-preserved c = grind (arith, common_steps, passed-join)

pub returns : goal.returns
returns c = passed-join c.loop-i.invariant.2 (c.hit_by_parts.ensures.passed (omega arith))
