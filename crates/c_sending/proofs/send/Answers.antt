-- `c_sending::send` meets its contract: the answer of `sending::send` as a number.
use Rattle.c_sending.proofs.send.Goals as goal

pub returns : goal.returns
returns c =
    let s = c.send.ensures in
    let g = c.give_count.ensures in
    (rw (← s.0) g.0, s.1, rw (← s.0) g.1)
