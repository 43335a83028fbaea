-- `name_count::count_names` meets its contract: the names passed are other names, and counted.
use Prim.Native.Nat.{◌-◌}
use lib.ListN.{length}
use Rattle.spec.specs.Lines.{text_at, line_text}
use Rattle.spec.specs.Search.{split_names}
use Rattle.name_count.proofs.Counting.{Left}
use Rattle.name_count.proofs.count_names.Given as goal

abbrev pub invariant-loop-t : goal.invariant-loop-t
invariant-loop-t l = Left l.name (split_names (line_text (text_at l.s l.at))) l.before (split_names (line_text (text_at l.s l.i))) l.n

abbrev pub decreases-loop-t : goal.decreases-loop-t
decreases-loop-t l = length l.s - l.i
