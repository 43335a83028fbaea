-- The spot stands in the database, and no more is counted than records were told of.
use Prim.Native.Nat.{◌≤◌}
use lib.ListN.{length}
use Rattle.removal_notes.specs.Notes.{Stands}
use Rattle.tcmend.proofs.tell.Given as goal

abbrev pub invariant-loop-entry : goal.invariant-loop-entry
invariant-loop-entry g l =
    (goal.iterator-loop-entry g).can_next l.entry-iterator × (goal.iterator-loop-entry g).is_finite l.entry-iterator × Stands l.db.bytes.now l.spot
    × (l.told.fields ≤ length l.yielded) × (l.told.changed ≤ length l.yielded) × (l.told.dropped ≤ length l.yielded)
