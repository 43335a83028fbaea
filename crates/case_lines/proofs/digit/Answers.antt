-- `case_lines::digit` meets its contract.
use native.Mathlib.Omega.{arith}
use borrow.Author.Tests.{le-leb}
use Rattle.laws.proofs.FieldSteps.{outside}
use Rattle.case_lines.specs.Fields.{digit_of}
use Rattle.case_lines.proofs.digit.Goals as goal

pub returns-in-48-to-57 : goal.returns-in-48-to-57
unfolding digit_of
returns-in-48-to-57 c = let b = c.args.b in (rw (le-leb 48 b (omega arith), le-leb b 57 (omega arith)), omega arith)

pub returns-in_default : goal.returns-in_default
unfolding digit_of
returns-in_default c = (rw (outside 48 57 c.args.b (λ w. omega arith)), omega arith)

pub returns-in_default-2 : goal.returns-in_default-2
unfolding digit_of
returns-in_default-2 c = (rw (outside 48 57 c.args.b (λ w. omega arith)), omega arith)
