-- `link_targets::settle` meets its contract: a number is settled once.
use Rattle.link_targets.proofs.Settling.{settle_outside, settle_before, settle_now}
use Rattle.link_targets.proofs.settle.Goals as goal
use Rattle.link_targets.proofs.settle.Goals.{else-j-firsts-via-then-j-firsts+else-firsts-j-eq-NOWHERE, else-j-firsts-via-else-j-firsts}

pub returns-then-firsts-j-eq-NOWHERE : goal.returns-then-firsts-j-eq-NOWHERE
returns-then-firsts-j-eq-NOWHERE c = settle_now _ _ _ c.if-j-firsts.true c.if-firsts-j-eq-NOWHERE.true

pub returns-else-j-firsts : goal.returns-else-j-firsts
returns-else-j-firsts c =
    elim c.else-j-firsts.branch [
      | else-j-firsts-via-then-j-firsts+else-firsts-j-eq-NOWHERE w ↦ settle_before _ _ _ w.if-firsts-j-eq-NOWHERE.false
      | else-j-firsts-via-else-j-firsts w ↦ settle_outside _ _ _ w.if-j-firsts.false
    ]
