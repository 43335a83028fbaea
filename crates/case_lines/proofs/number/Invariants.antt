-- The number so far and what is left of the field make the number.
use mathlib.Core.Path.{◌≡◌}
use lib.ListN.{drop}
use Rattle.case_lines.specs.Fields.{number_from, number_of}
use Rattle.case_lines.proofs.number.Given as goal

abbrev pub invariant-loop-b : goal.invariant-loop-b
invariant-loop-b l = number_from l.n (drop l.b-index l.b-items) ≡ number_of l.line l.k
