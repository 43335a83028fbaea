-- `name_places::any_mark` meets its contract.
use native.Mathlib.Omega.{arith}
use Rattle.name_places.proofs.Marking.{settled-marked}
use Rattle.name_places.proofs.any_mark.Goals as goal

pub returns-then-high-eq0 : goal.returns-then-high-eq0
returns-then-high-eq0 c =
    let m = c.mark_places-marks.ensures in
    let low = m.lowest in
    λ e. settled-marked _ _ c.args.at _ _ m (omega arith) (omega arith) (λ h. absurd (omega arith))

pub returns : goal.returns
returns c = λ e. settled-marked _ _ c.args.at _ _
    c.mark_places-marks.ensures (omega arith) (omega arith) (λ h. c.is_like.ensures e)
