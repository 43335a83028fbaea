-- `c_questions::string_files` meets its contract: the answer of `questions::string` as a number.
use Rattle.c_questions.proofs.string_files.Goals as goal

pub returns : goal.returns
returns c =
    let s = c.string.ensures in
    let g = c.give_answer.ensures in
    (rw (← s.0) g.0, s.1, rw (← s.0) g.1)
