-- What is left, from here, is what was asked for.
use Prim.Native.Nat.{◌-◌, ◌≤◌}
use mathlib.Core.Path.{◌≡◌}
use lib.ListN.{length}
use Rattle.spec.specs.Lines.{text_at}
use Rattle.removal_notes.specs.Notes.{text_from}
use Rattle.removal_notes.proofs.skip_bytes.Given as goal

abbrev pub invariant-loop : goal.invariant-loop
invariant-loop l =
    (text_from 0 (l.count - l.counter) (text_at l.db l.p) ≡ text_from 0 l.count (text_at l.db l.at)) × (l.at ≤ l.p) × (l.p ≤ length l.db)
