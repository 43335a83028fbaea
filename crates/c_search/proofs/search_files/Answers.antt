-- `c_search::search_files` meets its contract: the answer of `name_count::search` as a number.
use Rattle.c_search.proofs.search_files.Goals as goal

pub returns : goal.returns
returns c =
    let s = c.search.ensures.0 in
    let g = c.give_search.ensures in
    (rw (← s) g.0, rw (← s) g.1, rw (← s) g.2)
