-- `line_collector::any_newline` meets its contract.
use mathlib.Core.Path.{◌≡◌}
use mathlib.Core.Bool.{false}
use Prim.Native.Nat.{◌+◌}
use Rattle.line_collector.specs.Answers.{NoNewline}
use Rattle.line_collector.proofs.any_newline.Given as goal

abbrev pub invariant-loop-k : goal.invariant-loop-k
invariant-loop-k l = l.hit ≡ false → NoNewline l.s l.from (l.from + l.k)
