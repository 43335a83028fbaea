-- `link_targets::settle_lines` meets its contract: what is settled so far, or else what the lines from `at` on settle, is what all lines settle.
use native.Mathlib.Omega.{arith}
use Rattle.link_targets.proofs.Settling.{lines_first, lines_on, lines_done}
use Rattle.link_targets.proofs.settle_lines.Goals as goal

pub loop-n-init : goal.loop-n-init
loop-n-init c = (omega arith, lines_first _ _ _ c.requires.unsettled)

pub loop-n-preserved : goal.loop-n-preserved
loop-n-preserved c =
    let p = c.in-Some.ensures in
    (p.2, lines_on _ _ _ (omega arith) _ _ c.loop-n.invariant.1 (omega arith) c.settle_line.ensures _ p.0)

pub returns-in-None : goal.returns-in-None
returns-in-None c =
    lines_done _ _ _ (omega arith) _ _ c.loop-n.invariant.1 (omega arith) c.settle_line.ensures c.in-None.ensures
