-- `position::write_digits` meets its contract. The invariant: the digits from place `i` on are stored, and those before it spell `rest`.
use Rattle.position.proofs.DigitWriting.{Spelt}
use Rattle.position.proofs.write_digits.Given as goal

abbrev pub invariant-loop-i : goal.invariant-loop-i
invariant-loop-i l = Spelt l.initial.out l.out l.at l.n l.count l.i l.rest
