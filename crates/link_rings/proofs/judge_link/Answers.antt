-- `link_rings::judge_link` meets its contract: the walk by numbers is the walk over the links.
use mathlib.Core.Path.{◌∙◌, sym}
use mathlib.Core.Bool.{true, false}
use Rattle.link_rings.proofs.Walks.{reason_lost, reason-told}
use Rattle.link_rings.proofs.judge_link.Goals as goal

pub returns-then-tos-k-eq-NOWHERE : goal.returns-then-tos-k-eq-NOWHERE
returns-then-tos-k-eq-NOWHERE c =
    let pre = c.requires in
    reason_lost _ _ c.args.nexts.now _ pre.starts pre.tos_len pre.nexts_len pre.nexts pre.k_in_bounds
    c.if-tos-k-eq-NOWHERE.true

pub returns-then-comes_back : goal.returns-then-comes_back
returns-then-comes_back c =
    let pre = c.requires in
    reason-told _ _ _ _ pre.starts pre.tos_len pre.nexts_len pre.nexts pre.k_in_bounds c.if-tos-k-eq-NOWHERE.false true
    (sym c.if-comes_back.true ∙ c.comes_back.ensures)

pub returns-else-comes_back : goal.returns-else-comes_back
returns-else-comes_back c =
    let pre = c.requires in
    reason-told _ _ _ _ pre.starts pre.tos_len pre.nexts_len pre.nexts pre.k_in_bounds c.if-tos-k-eq-NOWHERE.false false
    (sym c.if-comes_back.false ∙ c.comes_back.ensures)
