-- `lines::has_length` meets its contract: k bytes of the name are passed, and the rest of it stands at the loop's place.
use Prim.Native.Nat.{◌+◌, ◌≤◌, ◌-◌}
use mathlib.Core.Path.{◌≡◌}
use lib.ListN.{length}
use Rattle.spec.specs.Lines.{text_at, line_text, first_name}
use Rattle.lines.proofs.has_length.Given as goal

abbrev pub invariant-loop-b : goal.invariant-loop-b
invariant-loop-b l = (l.k ≤ l.count) × (length (first_name (line_text (text_at l.s l.at))) ≡ l.k + length (first_name (line_text (text_at l.s l.i))))

abbrev pub decreases-loop-b : goal.decreases-loop-b
decreases-loop-b l = length l.s - l.i
