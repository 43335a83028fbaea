-- `escapes::measure_text` meets its contract: the text stands for `k` bytes up to the place `i`, where so many of its bytes are passed.
use Rattle.escapes.proofs.TextSteps.{measuring_none, measuring_on, measuring_done, measuring_fault}
use Rattle.escapes.proofs.measure_text.Goals as goal

pub loop-n-init : goal.loop-n-init
loop-n-init c = measuring_none _ _

pub loop-n-preserved : goal.loop-n-preserved
loop-n-preserved c =
    let p = c.in-Byte.ensures in
    measuring_on _ _ _ _ _ c.loop-n.invariant _ _ _ p

pub returns-in-End : goal.returns-in-End
returns-in-End c =
    let p = c.in-End.ensures in
    measuring_done _ _ _ _ _ c.loop-n.invariant p

pub returns-in-Bad : goal.returns-in-Bad
returns-in-Bad c =
    let p = c.in-Bad.ensures in
    measuring_fault _ _ _ _ _ c.loop-n.invariant p
