-- `name_places::first_hit` meets its contract: each place before the loop's is settled.
use Rattle.name_places.proofs.Places.{each_one}
use Rattle.name_places.proofs.first_hit.Goals as goal

pub loop-i-preserved : goal.loop-i-preserved
loop-i-preserved c = each_one _ c.loop-i.invariant (c.is_hit.ensures c.if-is_hit.false)
