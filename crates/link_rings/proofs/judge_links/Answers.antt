-- `link_rings::judge_links` meets its contract: the links before `k` are judged.
use native.Mathlib.Omega.{arith}
use Rattle.link_rings.proofs.Walks.{judged-all}
use Rattle.link_rings.proofs.judge_links.Goals as goal

pub returns : goal.returns
returns c =
    let pre = c.requires in
    (judged-all _ _ _ _ pre.tos_len (omega (arith, pre.reasons_len)) c.loop-k.invariant (omega arith), c.list_nexts.ensures)
