-- `tcmend::count_descriptions` meets its contract. The invariant: the lines so far and those from here on are all. The measure is the rest.
use native.Mathlib.Nat.{zero-add}
use native.Mathlib.Omega.{arith}
use Rattle.spec.specs.Repair.{lines_of}
use Rattle.tcmend.proofs.Descriptions.{counted_next, counted_last}
use Rattle.tcmend.proofs.count_descriptions.Goals as goal

pub loop-next-init : goal.loop-next-init
unfolding lines_of
loop-next-init c = (zero-add _, omega arith, omega arith)

pub loop-next-preserved : goal.loop-next-preserved
loop-next-preserved c =
    let l = c.loop-next in
    let p = c.in-Some.ensures in
    (counted_next _ l.at l.n _ _ l.invariant.0 c.count_line-n.ensures.0 _ p.0, omega (arith, l.invariant.1, p.1, c.count_line-n.ensures.1), p.2)

pub returns-in-None : goal.returns-in-None
returns-in-None c =
    let l = c.loop-next in
    let p = c.in-None.ensures in
    counted_last _ l.at l.n _ _ l.invariant.0 c.count_line-n.ensures.0 p
