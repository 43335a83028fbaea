-- `link_targets::copy_name` meets its contract: `k` bytes of the name are in the buffer, and those from the place `i` on are left.
use Rattle.std.proofs.Common.{rules}
use Rattle.link_targets.proofs.Copying.{copying_none, copying_on, copying_done, name-stops, name-goes_on, name-ends}
use Rattle.link_targets.proofs.copy_name.Goals as goal

pub loop-b-init : goal.loop-b-init
loop-b-init c = copying_none _ _ _ _

pub returns-in-10 : goal.returns-in-10
returns-in-10 c = copying_done _ _ _ _ _ _ _ c.loop-b.invariant (name-stops _ _ _ _ c.in-Some.ensures.0 c.in-10.is)

pub loop-b-preserved : goal.loop-b-preserved
loop-b-preserved c =
    let p = c.in-Some.ensures in
    copying_on _ _ _ _ _ _ _ c.loop-b.invariant _ _ _ (name-goes_on _ _ _ _ p.0 (search rules)) p.1 c.put_after.ensures

pub returns-in-None : goal.returns-in-None
returns-in-None c = copying_done _ _ _ _ _ _ _ c.loop-b.invariant (name-ends _ _ c.in-None.ensures)
