-- `position::fill_body` meets its contract. The invariant: what is written, and then what the bytes that are left give, is what the whole
-- command gives. The measure is the number of bytes that are left.
use native.Mathlib.Omega.{arith}
use Rattle.position.proofs.OuterLoop.{handed-length, fill_done, fill-again}
use Rattle.position.proofs.fill_body.Goals as goal

pub returns-in-Done : goal.returns-in-Done
returns-in-Done c =
    let step = rw c.in-Done.is at c.in_ok-end.ensures in
    fill_done _ _ _ _ _ _ _ _ c.loop-end.invariant 0 _ _ _ step

pub loop-end-preserved : goal.loop-end-preserved
loop-end-preserved c =
    let l = c.loop-end in
    let step = rw c.in-Paused.is at c.in_ok-end.ensures in
    let k = handed-length _ _ _ _ _ _ _ _ l.invariant in
    fill-again _ _ _ _ _ _ _ _ l.invariant _ _ _ _ _ step c.plain.auto.out (omega arith)
