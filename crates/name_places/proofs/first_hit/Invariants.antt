-- `name_places::first_hit` meets its contract: each place before the loop's is settled.
use Rattle.name_places.specs.Marks.{AllSettled}
use Rattle.name_places.proofs.first_hit.Given as goal

abbrev pub invariant-loop-i : goal.invariant-loop-i
invariant-loop-i l = AllSettled l.s l.name l.at l.i
