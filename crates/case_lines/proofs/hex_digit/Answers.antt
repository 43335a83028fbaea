-- `case_lines::hex_digit` meets its contract.
use native.Mathlib.Omega.{arith}
use borrow.Author.Tests.{le-leb}
use Rattle.laws.proofs.FieldSteps.{outside}
use Rattle.case_lines.specs.Fields.{hex_digit_of}
use Rattle.case_lines.proofs.hex_digit.Goals as goal

pub returns-in-97-to-102 : goal.returns-in-97-to-102
unfolding hex_digit_of
returns-in-97-to-102 c = let b = c.args.b in (rw (le-leb 97 b (omega arith), le-leb b 102 (omega arith)), omega arith)

pub returns-in_default : goal.returns-in_default
unfolding hex_digit_of
returns-in_default c = (
  rw (outside 97 102 c.args.b (λ w. omega arith))
      c.digit.ensures.0,
  omega arith,
)
