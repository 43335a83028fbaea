-- `c_search::show_files` meets its contract: the answer of `show::show_part` as a number.
use Rattle.c_search.proofs.ShownOrder.{ordered}
use Rattle.c_search.proofs.show_files.Goals as goal

pub give_part-requires : goal.give_part-requires
give_part-requires c = ordered _ _ _ c.show_part.ensures.0

pub returns : goal.returns
returns c =
    let s = c.show_part.ensures.0 in
    let g = c.give_part.ensures in
    (rw (← s) g.0, rw (← s) g.1, rw (← s) g.2)
