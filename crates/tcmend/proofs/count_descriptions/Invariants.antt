-- `tcmend::count_descriptions` meets its contract. The invariant: the lines so far and those from here on are all. The measure is the rest.
use Prim.Native.Nat.{◌+◌, ◌-◌, ◌≤◌}
use mathlib.Core.Path.{◌≡◌}
use lib.ListN.{length}
use Rattle.spec.specs.Lines.{text_at, lines_from}
use Rattle.spec.specs.Repair.{lines_of, descriptions}
use Rattle.tcmend.proofs.count_descriptions.Given as goal

abbrev pub invariant-loop-next : goal.invariant-loop-next
invariant-loop-next l = (l.n + descriptions (lines_from l.at (text_at l.db l.at)) ≡ descriptions (lines_of l.db)) × (l.n ≤ l.at) × (l.at ≤ length l.db)

abbrev pub decreases-loop-next : goal.decreases-loop-next
decreases-loop-next l = length l.db - l.at
