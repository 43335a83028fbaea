-- `c_questions::number` meets its contract: `number_files` of one file that fills the buffer.
use Rattle.c_questions.proofs.number.Goals as goal

pub returns : goal.returns
returns c = c.number_files.ensures
