-- `link_targets::store_targets` meets its contract: the targets before `k` are found.
use Rattle.link_targets.specs.Targets.{Targets}
use Rattle.link_targets.proofs.store_targets.Given as goal

abbrev pub invariant-loop-k : goal.invariant-loop-k
invariant-loop-k l = Targets l.db l.names l.tos l.k
