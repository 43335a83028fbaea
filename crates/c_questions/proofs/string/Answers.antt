-- `c_questions::string` meets its contract: `string_files` of one file that fills the buffer.
use Rattle.c_questions.proofs.string.Goals as goal

pub returns : goal.returns
returns c = c.string_files.ensures
