-- `line_collector::collect_name` meets its contract.
use mathlib.Core.Path.{◌≡◌}
use mathlib.Core.List.{List}
use Prim.Native.Nat.{ℕ, ◌≤◌}
use lib.ListN.{length, drop}
use Rattle.spec.specs.Finder.{feeding, fed}
use Rattle.line_collector.specs.Answers.{at, OtherName}
use Rattle.line_collector.proofs.collect_name.Given as goal

-- the bytes so far were collected, and it is still such a name
abbrev pub invariant-loop-i : goal.invariant-loop-i
invariant-loop-i l =
    ((name : List ℕ) → length name ≤ 64 → fed name (feeding 0 (at l.initial.line l.initial.text)) l.rest
    ≡ fed name (feeding 0 (at l.line l.text)) (drop l.i l.rest))
    × OtherName l.line
