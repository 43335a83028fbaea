-- `mended_fields::ends_in_backslash` meets its contract: the last byte passed, with the field from `i` on, ends as the field does.
use Prim.Native.Nat.{◌-◌}
use mathlib.Core.Path.{◌≡◌}
use mathlib.Core.List.{◌∷◌}
use lib.ListN.{length}
use Rattle.spec.specs.Repair.{ends_in_backslash}
use Rattle.field_bounds.specs.Answers.{field_at}
use Rattle.mended_fields.proofs.ends_in_backslash.Given as goal

abbrev pub invariant-loop-b : goal.invariant-loop-b
invariant-loop-b l = ends_in_backslash (field_at l.s l.at) ≡ ends_in_backslash (l.last ∷ field_at l.s l.i)

abbrev pub decreases-loop-b : goal.decreases-loop-b
decreases-loop-b l = length l.s - l.i
