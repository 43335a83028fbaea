-- What is left, stored from here on, makes the whole.
use Prim.Native.Nat.{◌+◌, ◌-◌, ◌*◌, ◌≤◌}
use mathlib.Core.Path.{◌≡◌}
use lib.ListN.{length}
use lib.Seq.{sets}
use Rattle.spec.specs.Lines.{text_at}
use Rattle.removal_notes.specs.Notes.{shown_bytes}
use Rattle.removal_notes.proofs.put_joined.Given as goal

abbrev pub invariant-loop : goal.invariant-loop
invariant-loop l = record {
  stored : sets l.out l.end (shown_bytes (l.count - l.counter) (text_at l.db l.p)) ≡ sets l.initial.out l.at (shown_bytes l.count (text_at l.db l.from));
  counted : l.end + length (shown_bytes (l.count - l.counter) (text_at l.db l.p)) ≡ l.at + length (shown_bytes l.count (text_at l.db l.from));
  bounded : l.end ≤ l.at + 4 * l.counter;
}
