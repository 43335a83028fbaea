-- `tcmend::count_line` meets its contract.
use mathlib.Core.Path.{refl, sym, ◌∙◌}
use native.Mathlib.Omega.{arith}
use Rattle.spec.specs.Lines.{line_at}
use Rattle.tcmend.proofs.count_line.Goals as goal

pub returns-then-is_ignored : goal.returns-then-is_ignored
unfolding line_at
returns-then-is_ignored c = rw (sym c.is_ignored.ensures ∙ c.if-is_ignored.true) (refl, omega arith)

pub returns-else-is_ignored : goal.returns-else-is_ignored
unfolding line_at
returns-else-is_ignored c = rw (sym c.is_ignored.ensures ∙ c.if-is_ignored.false) (refl, omega arith)
