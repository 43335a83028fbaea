use mathlib.Core.Path.{◌∙◌, sym}
use native.Mathlib.Omega.{arith}
use Rattle.std.proofs.lemmas.List.{set-get_or}
use Rattle.case_lines.specs.Fields.{bytes_of}
use Rattle.case_lines.proofs.LineSteps.{sets_full}
use Rattle.case_lines.proofs.text.Goals as goal

pub returns-in-None-clause-value : goal.returns-in-None-clause-value
unfolding bytes_of
returns-in-None-clause-value c =
    let i = rw c.in-None.ensures at c.loop-n.invariant in
    rw set-get_or (omega arith, i.stored)

pub returns-clause-value : goal.returns-clause-value
returns-clause-value c =
    let l = c.loop-n in
    (omega arith, sym (sets_full (bytes_of l.rest.now) l.out l.n (omega arith)) ∙ l.invariant.stored)
