-- `position::fill_body` meets its contract. The invariant: what is written, and then what the bytes that are left give, is what the whole
-- command gives. The measure is the number of bytes that are left.
use Rattle.places.specs.Places.{parameters_of}
use Rattle.position.proofs.OuterLoop.{FilledSoFar}
use Rattle.position.proofs.fill_body.Given as goal

abbrev pub invariant-loop-end : goal.invariant-loop-end
invariant-loop-end l = FilledSoFar l.command l.g (parameters_of l.initial.ps) l.initial.out l.out l.left l.at (parameters_of l.ps)

abbrev pub decreases-loop-end : goal.decreases-loop-end
decreases-loop-end l = l.left
