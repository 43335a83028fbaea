-- `c_listing::batch` meets its contract: `batch_files` of one file that fills the buffer.
use Rattle.c_listing.proofs.batch.Goals as goal

pub returns : goal.returns
returns c = c.batch_files.ensures
