-- `padding::read_digits` meets its contract. The invariant: the digits from `at` on are those up to `i`, whose value is `value`, and those
-- after it.
use Rattle.padding.proofs.DigitSteps.{DigitsSoFar}
use Rattle.padding.proofs.read_digits.Given as goal

abbrev pub invariant-loop-i : goal.invariant-loop-i
invariant-loop-i l = DigitsSoFar l.s l.at l.value l.i
