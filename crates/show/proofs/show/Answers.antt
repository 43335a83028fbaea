-- `show::show` meets its contract: the part has the ends that `show_part` gives.
use mathlib.Core.Path.{sym, refl}
use native.Mathlib.Omega.{arith}
use Rattle.show.proofs.ShownParts.{show-inside}
use Rattle.show.proofs.show.Goals as goal

pub slice_bounds-result-count-in-Ok : goal.slice_bounds-result-count-in-Ok
slice_bounds-result-count-in-Ok c =
    let e = rw c.in-Ok.is at c.show_part.ensures.0 in
    omega (arith, show-inside _ _ _ (sym e))

pub slice_bounds-result-start-in-Ok : goal.slice_bounds-result-start-in-Ok
slice_bounds-result-start-in-Ok c =
    let e = rw c.in-Ok.is at c.show_part.ensures.0 in
    omega (arith, show-inside _ _ _ (sym e))

pub slice_bounds-result-end-in-Ok : goal.slice_bounds-result-end-in-Ok
slice_bounds-result-end-in-Ok c =
    let e = rw c.in-Ok.is at c.show_part.ensures.0 in
    omega (arith, show-inside _ _ _ (sym e))

pub returns-in-Err : goal.returns-in-Err
returns-in-Err c =
    let e = rw c.in-Err.is at c.show_part.ensures.0 in
    ((refl, rw (← e) (omega arith), rw (← e)), rw (← e) c.number.ensures)

pub returns-in-Ok : goal.returns-in-Ok
returns-in-Ok c =
    let e = rw c.in-Ok.is at c.show_part.ensures.0 in
    ((refl, rw (← e) (omega arith), rw (← e)), rw (← e))
