-- `link_rings::comes_back` meets its contract: the walk from `at` on, with the steps that are left, ends as the whole walk does.
use mathlib.Core.Path.{◌∙◌}
use native.Mathlib.Omega.{arith}
use Rattle.link_rings.proofs.Walks.{walk_on}
use Rattle.link_rings.proofs.comes_back.Goals as goal

pub loop-preserved : goal.loop-preserved
loop-preserved c = c.loop.invariant ∙ walk_on _ _ _ _ _ (omega arith) (omega arith) (omega arith)
