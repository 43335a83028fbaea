-- `name_places::measure` meets its contract: the bytes passed are measured.
use mathlib.Core.Path.{◌≡◌}
use native.Mathlib.Omega.{arith}
use Rattle.name_places.proofs.Marking.{measured}
use Rattle.name_places.proofs.measure.Goals as goal

pub returns : goal.returns
returns c =
    let full : c.loop-k.k ≡ 32 = omega arith in
    measured _ _ _ (rw full at c.loop-k.invariant)
