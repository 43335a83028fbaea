-- `mended_fields::record_fields` meets its contract: the records of the fields before `at` are stored, and those from there on are left.
use Prim.Native.Nat.{ℕ, ◌+◌, ◌*◌, ◌-◌, ◌≤◌}
use mathlib.Core.Path.{◌≡◌}
use mathlib.Core.Bool.{Bool, false}
use mathlib.Core.List.{List}
use lib.ListN.{length}
use Rattle.spec.specs.Lines.{line_at}
use Rattle.mended_fields.specs.Parts.{records_from}
use Rattle.mended_fields.proofs.Storing.{Storing}
use Rattle.mended_fields.proofs.record_fields.Given as goal

pub record Going (s : List ℕ) (line place reason : ℕ) (records₀ : List ℕ) (from : ℕ) (records : List ℕ) (at : ℕ) (linked : Bool) (here n : ℕ) : Type 0 where
  pub stored : Storing (records_from s line reason false place 0) records₀ from records n (records_from s line reason linked here at)
  pub few : n ≤ 16 * at
  pub within : at ≤ length s
  pub placed : here + length (line_at s at) ≡ place + length (line_at s 0)

abbrev pub invariant-loop-part : goal.invariant-loop-part
invariant-loop-part l = Going l.s l.line l.place l.reason l.initial.records l.from l.records l.at l.linked l.here l.n

abbrev pub decreases-loop-part : goal.decreases-loop-part
decreases-loop-part l = length l.s - l.at
