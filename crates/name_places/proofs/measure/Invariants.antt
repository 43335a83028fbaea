-- `name_places::measure` meets its contract: the bytes passed are measured.
use Rattle.name_places.proofs.Marking.{Far}
use Rattle.name_places.proofs.measure.Given as goal

abbrev pub invariant-loop-k : goal.invariant-loop-k
invariant-loop-k l = Far l.s l.at l.k l.far
