-- `c_listing::list_files` meets its contract: the answer of `listing::list` as a number.
use Rattle.c_listing.proofs.list_files.Goals as goal

pub returns : goal.returns
returns c =
    let s = c.list.ensures in
    let g = c.give_count.ensures in
    (rw (← s.0) g.0, s.1, rw (← s.0) g.1)
