-- `c_listing::flat_files` meets its contract: the answer of `listing::flat` as a number.
use Rattle.c_listing.proofs.flat_files.Goals as goal

pub returns : goal.returns
returns c =
    let s = c.flat.ensures in
    let g = c.give_count.ensures in
    (rw (← s.0) g.0, s.1, rw (← s.0) g.1)
