-- `batch::note_fields` meets its contract: what is left of the part, taken into the tables, gives the whole.
use Prim.Native.Nat.{ℕ, ◌-◌, ◌≤◌}
use mathlib.Core.List.{List}
use lib.ListN.{length}
use Rattle.spec.specs.Lines.{line_at}
use Rattle.spec.specs.Fields.{split}
use Rattle.spec.specs.Chain.{placed}
use Rattle.batch.specs.Answers.{Notes}
use Rattle.batch.specs.declared.Tables.{Tables}
use Rattle.batch.proofs.note_fields.Given as goal

abbrev pub Left : List ℕ → Tables → Tables → ℕ → Type 0
Left s tables₀ tables at =
    (place file : ℕ) (t : Tables) → Notes (placed place file (split (line_at s at))) tables t → Notes (placed place file (split (line_at s 0))) tables₀ t

abbrev pub invariant-loop-read : goal.invariant-loop-read
invariant-loop-read l = (l.at ≤ length l.s) × Left l.s l.initial.tables l.tables l.at

abbrev pub decreases-loop-read : goal.decreases-loop-read
decreases-loop-read l = length l.s - l.at
