-- The position of the place that is reached.
use Prim.Native.Nat.{◌+◌}
use mathlib.Core.Path.{◌≡◌}
use Rattle.removal_notes.specs.Notes.{position_at}
use Rattle.removal_notes.proofs.move_on.Given as goal

abbrev pub invariant-loop-b : goal.invariant-loop-b
invariant-loop-b l = l.here ≡ position_at l.db (l.from + l.b-index)
