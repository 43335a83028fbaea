-- `lines::is_equal` meets its contract: the first k bytes of the name are those passed, so what is left of it decides.
use Prim.Native.Nat.{◌≤◌, ◌-◌}
use mathlib.Core.Path.{◌≡◌}
use lib.ListN.{length}
use Rattle.spec.specs.Lines.{text_at, line_text, first_name}
use Rattle.spec.specs.Lists.{same}
use Rattle.laws.proofs.TextSteps.{rest}
use Rattle.lines.proofs.is_equal.Given as goal

abbrev pub invariant-loop-b : goal.invariant-loop-b
invariant-loop-b l =
    (l.k ≤ length l.name) × (same l.name (first_name (line_text (text_at l.s l.at))) ≡ same (rest l.name l.k) (first_name (line_text (text_at l.s l.i))))

abbrev pub decreases-loop-b : goal.decreases-loop-b
decreases-loop-b l = length l.s - l.i
