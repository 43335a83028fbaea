-- `link_targets::find_targets` meets its contract: the targets before `from` are found.
use native.Mathlib.Omega.{arith}
use Rattle.link_targets.proofs.Found.{targets_none, targets_reached}
use Rattle.link_targets.proofs.find_targets.Goals as goal

pub loop-from-init : goal.loop-from-init
loop-from-init c = (omega arith, targets_none _ _ _)

pub returns : goal.returns
returns c = targets_reached _ _ _ _ _ c.loop-from.invariant.1 (omega arith)
