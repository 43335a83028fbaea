-- `lines::next_name` meets its contract: what is passed belongs to the first name, so the later names are the same.
use Prim.Native.Nat.{◌≤◌, ◌-◌}
use mathlib.Core.Path.{◌≡◌}
use lib.ListN.{length}
use Rattle.spec.specs.Lines.{text_at, line_text, later_names}
use Rattle.lines.proofs.next_name.Given as goal

abbrev pub invariant-loop-b : goal.invariant-loop-b
invariant-loop-b l = (l.at ≤ l.i) × (later_names (line_text (text_at l.s l.at)) ≡ later_names (line_text (text_at l.s l.i)))

abbrev pub decreases-loop-b : goal.decreases-loop-b
decreases-loop-b l = length l.s - l.i
