-- `c_sending::pad` meets its contract: the answer of `sending::pad` as a number.
use Rattle.c_sending.proofs.pad.Goals as goal

pub returns : goal.returns
returns c =
    let s = rw c.has_star.ensures at c.pad.ensures in
    let g = c.give_count.ensures in
    (rw (← s.0) g.0, s.1, rw (← s.0) g.1)
