-- `compensations::fill_in` meets its contract: the room for the body, and for its compensations.
use native.Mathlib.Omega.{arith}
use Rattle.compensations.proofs.FillingIn.{no_room, then_compensated}
use Rattle.compensations.proofs.fill_in.Goals as goal

pub returns-then-filled-capacity : goal.returns-then-filled-capacity
returns-then-filled-capacity c =
    let f = rw c.raising_for.ensures at c.in_ok-filled.ensures in
    no_room _ _ _ _ _ _ f _ (omega arith)

pub returns : goal.returns
returns c =
    let f = rw c.raising_for.ensures at c.in_ok-filled.ensures in
    then_compensated _ _ _ _ _ _ f _ _ _ c.append_compensations.ensures
