-- `c_questions::number_files` meets its contract: the answer of `questions::number` as a number.
use Rattle.c_questions.proofs.number_files.Goals as goal

pub returns : goal.returns
returns c = rw (← c.number.ensures.0) c.give_answer.ensures
