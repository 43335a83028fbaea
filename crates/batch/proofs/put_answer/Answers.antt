-- `batch::put_answer` meets its contract, by the answer.
use Rattle.batch.proofs.put_answer.Goals as goal

pub returns-in-Some : goal.returns-in-Some
returns-in-Some c = let e = c.in-Ok.is in let i = c.in-Some.is in rw (e, i) c.put_parts.ensures

pub returns-in-None : goal.returns-in-None
returns-in-None c = let e = c.in-Ok.is in let i = c.in-None.is in rw (e, i) c.put_parts-in-None.ensures

pub returns-in-Err : goal.returns-in-Err
returns-in-Err c =
    rw (c.in-Err.is, ← c.number.ensures)
    c.put_parts-in-Err.ensures
