-- `c_search::show` meets its contract: `show_files` of one file that fills the buffer.
use Rattle.c_search.proofs.show.Goals as goal

pub returns : goal.returns
returns c = c.show_files.ensures
