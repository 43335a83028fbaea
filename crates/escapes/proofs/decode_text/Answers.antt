-- `escapes::decode_text` meets its contract: the `k` bytes that the text stands for up to the place `i` are in the buffer.
use Rattle.escapes.proofs.TextSteps.{decoding_none, decoding_on, decoding_done, decoding_fault}
use Rattle.escapes.proofs.decode_text.Goals as goal

pub loop-b-init : goal.loop-b-init
loop-b-init c = decoding_none _ _ _

pub loop-b-preserved : goal.loop-b-preserved
loop-b-preserved c =
    let p = c.in-Byte.ensures in
    let inv = c.loop-b.invariant in
    decoding_on _ _ _ _ _ _ inv _ _ _ p.0 p.1 c.put_after.ensures

pub returns-in-End : goal.returns-in-End
returns-in-End c =
    let p = c.in-End.ensures in
    decoding_done _ _ _ _ _ _ c.loop-b.invariant p

pub returns-in-Bad : goal.returns-in-Bad
returns-in-Bad c =
    let p = c.in-Bad.ensures in
    decoding_fault _ _ _ _ _ _ c.loop-b.invariant p
