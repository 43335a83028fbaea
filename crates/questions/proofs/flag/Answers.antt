-- `questions::flag` meets its contract.
use mathlib.Core.Path.{ap}
use Rattle.spec.specs.Answers.{answer_report}
use Rattle.spec.specs.Questions.{flag_answer}
use Rattle.questions.proofs.flag.Goals as goal

pub returns : goal.returns
unfolding flag_answer
returns c = (c.answer_value.ensures, ap answer_report c.answer_value.ensures)
