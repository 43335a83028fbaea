-- `name_search::search_lines` meets its contract: what the search finds is what it finds among the lines from the outer loop's place on, and
-- the names of the line there are those from the inner loop's place on, or none of those passed is the name.
use Prim.Native.Nat.{◌-◌, ◌≤◌}
use mathlib.Core.Path.{◌≡◌}
use lib.ListN.{length}
use Rattle.spec.specs.Lines.{text_at, line_text, lines_from, has_name, find, find_line}
use Rattle.name_search.proofs.LineEnds.{Apart}
use Rattle.name_search.proofs.search_lines.Given as goal

abbrev pub invariant-loop-p : goal.invariant-loop-p
invariant-loop-p l = has_name l.name (line_text (text_at l.db l.at)) ≡ has_name l.name (line_text (text_at l.db l.p))

abbrev pub decreases-loop-p : goal.decreases-loop-p
decreases-loop-p l = length l.db - l.p

abbrev pub invariant-lines : goal.invariant-lines
invariant-lines l =
    (l.at ≤ length l.db) × Apart l.db l.at × (find_line l.db l.name ≡ find l.name (lines_from l.at (text_at l.db l.at)))

abbrev pub decreases-lines : goal.decreases-lines
decreases-lines l = length l.db - l.at
