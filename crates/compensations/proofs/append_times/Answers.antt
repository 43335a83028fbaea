-- `compensations::append_times` meets its contract. The invariant: the bytes are appended as often as was counted.
use native.Mathlib.Omega.{arith}
use Rattle.compensations.proofs.Appending.{repeated-none, repeated-again, repeated_full}
use Rattle.compensations.proofs.append_times.Goals as goal

pub loop-init : goal.loop-init
loop-init c = repeated-none _ _ _ _ _ c.requires

pub returns-in_err-end : goal.returns-in_err-end
returns-in_err-end c = rw c.from_residual.ensures (repeated_full _ _ _ _ _ _ _ _ c.loop.invariant (omega arith) c.in_err-end.ensures)

pub loop-preserved : goal.loop-preserved
loop-preserved c = repeated-again _ _ _ _ _ _ _ _ c.loop.invariant _ _ (omega arith) c.in_ok-end.ensures
