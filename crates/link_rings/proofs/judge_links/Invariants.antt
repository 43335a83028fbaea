-- `link_rings::judge_links` meets its contract: the links before `k` are judged.
use Rattle.link_rings.proofs.Walks.{Judged}
use Rattle.link_rings.proofs.judge_links.Given as goal

abbrev pub invariant-loop-k : goal.invariant-loop-k
invariant-loop-k l = Judged l.ats l.tos l.reasons l.k
