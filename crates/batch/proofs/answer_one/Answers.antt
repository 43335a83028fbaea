-- `batch::answer_one` meets its contract, test by test.
use mathlib.Core.Path.{◌∙◌, sym}
use native.Mathlib.Omega.{arith}
use Rattle.batch.proofs.Answered.{bad_id, bad_zero, bad_kind, answer-refused, answer-accepted}
use Rattle.std.proofs.lemmas.Result.{err_from_is_err_and}
use Rattle.batch.proofs.answer_one.Goals.{then-not-is_id-via-then-not-is_id, then-not-is_id-via-else-not-is_id+then-z-ne0}
use Rattle.batch.proofs.answer_one.Goals as goal

pub returns-then-not-is_id : goal.returns-then-not-is_id
returns-then-not-is_id c t w = elim c.then-not-is_id.branch [
  | then-not-is_id-via-then-not-is_id v ↦ bad_id t _ _ _ _ (sym c.is_id.ensures ∙ v.if-not-is_id.true)
  | then-not-is_id-via-else-not-is_id+then-z-ne0 v ↦ bad_zero t _ _ _ _ v.if-z-ne0.true
]

pub returns-in_default : goal.returns-in_default
returns-in_default c t w = bad_kind t _ _ _ _ (sym c.in_default.is ∙ c.from_number.ensures)

pub returns-in_err-walked : goal.returns-in_err-walked
returns-in_err-walked c t w =
    let id = sym c.is_id.ensures ∙ c.if-not-is_id.false in
    let is = sym c.in-Some.is ∙ c.from_number.ensures in
    let r = err_from_is_err_and c.from_residual.result c.from_residual.ensures.1 in
    rw (r.1, r.2) (answer-refused t _ _ _ _ id (omega arith) _ is _ (rw c.in_err-walked.was at w))

pub returns : goal.returns
returns c t w =
    let id = sym c.is_id.ensures ∙ c.if-not-is_id.false in
    let is = sym c.in-Some.is ∙ c.from_number.ensures in
    answer-accepted t _ _ _ _ id (omega arith) _ is _ _ c.kept_answer.ensures (rw c.in_ok-walked.was at w)
