-- `lines::is_blank` meets its contract: what is passed are spaces and tabs, so the rest of the line is blank where the line is.
use Prim.Native.Nat.{◌-◌}
use mathlib.Core.Path.{◌≡◌}
use lib.ListN.{length}
use Rattle.spec.specs.Lines.{text_at, line_text, blank}
use Rattle.lines.proofs.is_blank.Given as goal

abbrev pub invariant-loop-b : goal.invariant-loop-b
invariant-loop-b l = blank (line_text (text_at l.s l.at)) ≡ blank (line_text (text_at l.s l.i))

abbrev pub decreases-loop-b : goal.decreases-loop-b
decreases-loop-b l = length l.s - l.i
