-- `c_listing::list` meets its contract: `list_files` of one file that fills the buffer.
use Rattle.c_listing.proofs.list.Goals as goal

pub returns : goal.returns
returns c = c.list_files.ensures
