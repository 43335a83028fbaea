-- `name_count::count_file` meets its contract: the names of the lines passed are other names, and counted.
use Prim.Native.Nat.{◌-◌}
use mathlib.Core.List.{◌++◌}
use lib.ListN.{length}
use Rattle.spec.specs.Lines.{text_at, line_text, later_lines}
use Rattle.spec.specs.Search.{line_names, names_in, file_names}
use Rattle.name_count.proofs.Counting.{Left}
use Rattle.name_count.proofs.count_file.Given as goal

abbrev pub invariant-loop-t : goal.invariant-loop-t
invariant-loop-t l = Left l.name (file_names l.s) l.before (line_names (line_text (text_at l.s l.at)) ++ names_in (later_lines (text_at l.s l.at))) l.n

abbrev pub decreases-loop-t : goal.decreases-loop-t
decreases-loop-t l = length l.s - l.at
