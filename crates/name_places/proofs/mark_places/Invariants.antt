-- `name_places::mark_places` meets its contract: the places passed are marked.
use Rattle.name_places.specs.Marks.{Marked}
use Rattle.name_places.proofs.mark_places.Given as goal

abbrev pub invariant-loop-k : goal.invariant-loop-k
invariant-loop-k l = Marked l.s l.name l.at l.k l.high l.low
