-- `link_targets::store_targets` meets its contract: the targets before `k` are found.
use native.Mathlib.Omega.{arith}
use Rattle.link_targets.proofs.Found.{short-name, targets_on}
use Rattle.link_targets.proofs.store_targets.Goals as goal

pub target_of-requires-clause-at_len_bound : goal.target_of-requires-clause-at_len_bound
target_of-requires-clause-at_len_bound c = short-name _ _ _ c.requires.short_names (omega arith)

pub loop-k-preserved : goal.loop-k-preserved
loop-k-preserved c = targets_on _ _ _ _ _ c.loop-k.invariant (omega arith) c.target_of.ensures
