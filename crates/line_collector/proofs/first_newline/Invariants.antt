-- `line_collector::first_newline` meets its contract.
use Rattle.line_collector.specs.Answers.{NoNewline}
use Rattle.line_collector.proofs.first_newline.Given as goal

abbrev pub invariant-loop-i : goal.invariant-loop-i
invariant-loop-i l = NoNewline l.s l.from l.i
