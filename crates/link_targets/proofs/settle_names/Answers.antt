-- `link_targets::settle_names` meets its contract: what is settled so far, and what the names from `p` on settle, is what all of them settle.
use Rattle.link_targets.proofs.Settling.{settle_as, settling_all, settling_next, settling_last}
use Rattle.link_targets.proofs.settle_names.Goals as goal

pub loop-n-init : goal.loop-n-init
loop-n-init c = settling_all _ _ _

pub loop-n-preserved : goal.loop-n-preserved
loop-n-preserved c =
    settling_next _ _ _ _ _ _ _ _ c.loop-n.invariant (settle_as _ _ _ _ _ c.number_of.ensures c.settle.ensures) _ c.in-Some.ensures.0

pub returns-in-None : goal.returns-in-None
returns-in-None c = settling_last _ _ _ _ _ _ _ _ c.loop-n.invariant (settle_as _ _ _ _ _ c.number_of.ensures c.settle.ensures) c.in-None.ensures
