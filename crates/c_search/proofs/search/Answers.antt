-- `c_search::search` meets its contract: `search_files` of one file that fills the buffer.
use Rattle.c_search.proofs.search.Goals as goal

pub returns : goal.returns
returns c = c.search_files.ensures
