-- `c_listing::batch_files` meets its contract: the answer of `batch::batch` as a number.
use Rattle.c_listing.proofs.batch_files.Goals as goal

pub returns : goal.returns
returns c =
    let s = c.batch.ensures in
    let g = c.give_count.ensures in
    (rw (← s.0) g.0, s.1, rw (← s.0) g.1)
