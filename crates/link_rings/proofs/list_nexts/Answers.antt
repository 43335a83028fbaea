-- `link_rings::list_nexts` meets its contract: the links before `i` have their next ones.
use mathlib.Core.Path.{◌∙◌}
use native.Mathlib.Omega.{arith}
use Rattle.link_rings.proofs.Indexes.{index_or, nexts_on}
use Rattle.link_rings.proofs.list_nexts.Goals as goal

pub loop-i-preserved : goal.loop-i-preserved
loop-i-preserved c =
    nexts_on _ _ _ _ _ c.loop-i.invariant (omega arith) (c.unwrap_or.ensures ∙ rw c.entry_of.ensures (index_or c.args.ats.now _))
