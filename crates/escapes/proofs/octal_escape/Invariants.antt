-- `escapes::octal_escape` meets its contract: up to the place `i`, as many digits of the escape are read as the loop has counted, with the value v.
use Rattle.escapes.proofs.OctalDigits.{EscapeRead}
use Rattle.escapes.proofs.octal_escape.Given as goal

abbrev pub invariant-loop : goal.invariant-loop
invariant-loop l = EscapeRead l.s l.at l.first l.i l.counter l.v
