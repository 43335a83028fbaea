-- `mended_fields::write_kept` meets its contract: the kept fields before `at` are stored, and those from there on are left.
use Prim.Native.Nat.{◌-◌}
use mathlib.Core.Bool.{false}
use lib.ListN.{length}
use Rattle.mended_fields.specs.Parts.{kept_from}
use Rattle.mended_fields.proofs.Storing.{Storing}
use Rattle.mended_fields.proofs.write_kept.Given as goal

abbrev pub invariant-loop-part : goal.invariant-loop-part
invariant-loop-part l = Storing (kept_from l.s l.reason false 0) l.initial.text l.to l.text l.n (kept_from l.s l.reason l.linked l.at)

abbrev pub decreases-loop-part : goal.decreases-loop-part
decreases-loop-part l = length l.s - l.at
