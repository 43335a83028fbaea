-- `fields::after_start` meets its contract: the bytes of the start before the loop's were met up to the place `i`.
use Rattle.fields.proofs.Starting.{Started}
use Rattle.fields.proofs.after_start.Given as goal

abbrev pub invariant-loop-wanted : goal.invariant-loop-wanted
invariant-loop-wanted l = Started l.s l.at l.start l.i l.wanted-index
