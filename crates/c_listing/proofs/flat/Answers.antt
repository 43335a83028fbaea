-- `c_listing::flat` meets its contract: `flat_files` of one file that fills the buffer.
use Rattle.c_listing.proofs.flat.Goals as goal

pub returns : goal.returns
returns c = c.flat_files.ensures
