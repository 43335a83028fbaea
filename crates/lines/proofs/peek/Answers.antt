-- `lines::peek` meets its contract: what the loop has passed is pairs that vanish, so the text at `i` is the text at `at`.
use mathlib.Core.Path.{◌∙◌}
use native.Mathlib.Omega.{arith}
use Rattle.laws.proofs.TextSteps.{text-end, text_pair, text_last, text-byte, text-slash}
use Rattle.lines.proofs.peek.Goals as goal

pub loop-i-preserved : goal.loop-i-preserved
loop-i-preserved c = (
  omega arith,
  c.loop-i.invariant.1 ∙ text_pair _ _ (omega arith)
      c.if-b-eq92.true c.if-s-j-eq10.true,
)

pub returns-in-loop-i : goal.returns-in-loop-i
returns-in-loop-i c =
    let before = c.loop-i.invariant.1 in
    (search (arith, before, ◌∙◌, text-slash, text_last, text-byte), omega arith, omega arith)

pub returns : goal.returns
returns c = c.loop-i.invariant.1 ∙ text-end _ _ (omega arith)
