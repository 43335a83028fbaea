-- `lookup::scan_fields` meets its contract: the fields from `at` on say what all of them say.
use Prim.Native.Nat.{◌-◌}
use mathlib.Core.Path.{◌≡◌}
use mathlib.Core.List.{[], ◌∷◌}
use lib.ListN.{length}
use Rattle.spec.specs.Lines.{line_at}
use Rattle.spec.specs.Fields.{split, kind_number}
use Rattle.lookup.specs.Answers.{scan}
use Rattle.lookup.proofs.scan_fields.Given as goal

abbrev pub invariant-loop-at : goal.invariant-loop-at
invariant-loop-at l =
    let id = l.a ∷ l.b ∷ [] in
    let k = kind_number l.kind in
    scan id k (split (line_at l.s 0)) ≡ scan id k (split (line_at l.s l.at))

abbrev pub decreases-loop-at : goal.decreases-loop-at
decreases-loop-at l = length l.s - l.at
