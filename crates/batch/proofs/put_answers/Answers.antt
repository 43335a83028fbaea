-- `batch::put_answers` meets its contract: what is left of the answers, stored, gives all of them.
use mathlib.Core.Path.{◌∙◌, sym}
use native.Mathlib.Omega.{arith}
use borrow.Author.Rules.{rules}
use Rattle.batch.proofs.Answered.{answered_on, answered-all}
use Rattle.batch.proofs.put_answers.Goals as goal

pub loop-i-preserved : goal.loop-i-preserved
loop-i-preserved c =
    let l = c.loop-i in
    let x = c.answer_one-answer in
    let s = c.in-Some.ensures.steps in
    let size = s.0.1.1 ∙ l.invariant.1 in (
      search rules,
      s.0.0 ∙ l.invariant.1,
      λ t w.
          l.invariant.2 t w
          ∙ rw (s.0.1.0, ← s.1, s.2, ← s.1, c.put_answer.ensures)
          (answered_on t c.in-Some.q.now _ l.out c.in-Some.i x.result size (x.ensures t w)),
    )

pub returns : goal.returns
returns c t w =
    let l = c.loop-i in
    let s = c.in-None.ensures.steps in
    sym (l.invariant.2 t w ∙ answered-all t _ l.out _ (omega (arith, s.0.1.0, l.invariant.1)))
