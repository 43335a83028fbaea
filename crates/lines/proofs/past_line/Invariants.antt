-- `lines::past_line` meets its contract: the later lines are the same from the place `i` on, and the line at `at` ends where the line at `i` does.
use Prim.Native.Nat.{◌-◌, ◌≤◌}
use mathlib.Core.Path.{◌≡◌}
use lib.ListN.{length}
use Rattle.spec.specs.Lines.{text_at, later_lines, extent}
use Rattle.lines.proofs.past_line.Given as goal

abbrev pub invariant-loop-b : goal.invariant-loop-b
invariant-loop-b l =
    (l.at ≤ l.i) × (later_lines (text_at l.db l.at) ≡ later_lines (text_at l.db l.i)) × (extent l.db l.at ≡ extent l.db l.i)

abbrev pub decreases-loop-b : goal.decreases-loop-b
decreases-loop-b l = length l.db - l.i
