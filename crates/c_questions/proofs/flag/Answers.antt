-- `c_questions::flag` meets its contract: `flag_files` of one file that fills the buffer.
use Rattle.c_questions.proofs.flag.Goals as goal

pub returns : goal.returns
returns c = c.flag_files.ensures
