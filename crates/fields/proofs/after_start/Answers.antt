-- `fields::after_start` meets its contract: the bytes of the start before the loop's were met up to the place `i`.
use native.Mathlib.Omega.{arith}
use Rattle.fields.proofs.Starting.{started_none, started_on, started_not, started_short}
use Rattle.fields.proofs.after_start.Goals as goal

pub loop-wanted-init : goal.loop-wanted-init
loop-wanted-init c = started_none _ _ _

pub returns-then-b-wanted : goal.returns-then-b-wanted
returns-then-b-wanted c =
    let p = c.in_ok-b.ensures in
    started_not _ _ _ _ _ c.loop-wanted.invariant (omega arith) _ _ p.0 c.if-b-wanted.true

pub loop-wanted-preserved : goal.loop-wanted-preserved
loop-wanted-preserved c =
    let p = c.in_ok-b.ensures in
    started_on _ _ _ _ _ c.loop-wanted.invariant (omega arith) _ _ p.0 c.if-b-wanted.false p.3

pub returns-in_err-b : goal.returns-in_err-b
returns-in_err-b c = rw c.from_residual.ensures (started_short _ _ _ _ _ c.loop-wanted.invariant (omega arith) c.in_err-b.ensures)
