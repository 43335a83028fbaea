-- `sending::copy_front` meets its contract: the first i bytes are stored.
use native.Mathlib.Omega.{arith}
use lib.ListN.{length-set}
use Rattle.compensations.proofs.Appending.{copied_more}
use Rattle.sending.proofs.copy_front.Goals as goal

pub loop-i-preserved : goal.loop-i-preserved
loop-i-preserved c =
    let l = c.loop-i in
    let a = c.args in (
      rw l.invariant.0 (copied_more a.bytes.now a.out.now 0 l.i l.i (omega arith) c.loop-i-test.true),
      simp length-set l.invariant.1,
    )
