-- `name_scan::list_all` meets its contract: the numbers passed are listed.
use Rattle.std.proofs.Common.{ℕ}
use Rattle.name_scan.specs.Blocks.{Listed}
use Rattle.name_scan.proofs.list_all.Given as goal

abbrev pub invariant-loop-k : goal.invariant-loop-k
invariant-loop-k l = Listed (λ (j : ℕ). ⊥) l.list l.k l.k
