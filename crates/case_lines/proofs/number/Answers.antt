use mathlib.Core.Path.{sym, ◌∙◌}
use Rattle.case_lines.proofs.LineSteps.{number-end, number_full, number_on}
use Rattle.case_lines.proofs.number.Goals as goal

pub returns-then-n-gt99999999 : goal.returns-then-n-gt99999999
returns-then-n-gt99999999 c = sym (number_full _ _ _ c.loop-b-test.true c.if-n-gt99999999.true) ∙ c.loop-b.invariant

pub loop-b-preserved : goal.loop-b-preserved
loop-b-preserved c =
    let l = c.loop-b in
    rw c.digit.ensures.0 (sym (number_on _ _ _ c.loop-b-test.true c.if-n-gt99999999.false) ∙ l.invariant)

pub returns : goal.returns
returns c = sym (number-end _ _ _ c.loop-b-test.false) ∙ c.loop-b.invariant
