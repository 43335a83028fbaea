-- `link_list::list_links` meets its contract: what is listed, and what the lines from `at` on have, is all.
use native.Mathlib.Omega.{arith}
use Rattle.link_list.proofs.Lists.{listing_first, count_of, at_most_one, too_many, passed-at, listing_done}
use Rattle.link_list.proofs.list_links.Goals as goal

pub loop-lines-init : goal.loop-lines-init
loop-lines-init c = listing_first _ _ _ c.requires.ats_len c.requires.names_len

pub overflow_add-lines : goal.overflow_add-lines
overflow_add-lines c =
    let m = at_most_one _ _ (count_of _ _ _ c.from-lines.ensures c.is_ignored.ensures) in
    omega (arith, m, c.loop-lines.invariant.few)

pub returns-then-lines-gt-MOST_LINES : goal.returns-then-lines-gt-MOST_LINES
returns-then-lines-gt-MOST_LINES c =
    too_many _ _ _ _ _ _ _ _ _ _ c.loop-lines.invariant (count_of _ _ _ c.from-lines.ensures c.is_ignored.ensures)
    c.if-lines-gt-MOST_LINES.true

pub put_link-n-requires : goal.put_link-n-requires
put_link-n-requires c = omega (arith, c.loop-lines.invariant.small, c.loop-lines.invariant.few)

pub loop-lines-preserved : goal.loop-lines-preserved
loop-lines-preserved c =
    let count = count_of _ _ _ c.from-lines.ensures c.is_ignored.ensures in
    rw (← c.in-Some.ensures.0)
    (passed-at _ _ _ _ _ _ _ _ _ c.loop-lines.invariant count c.if-lines-gt-MOST_LINES.false _ _ _ c.line_link.result
    c.line_link.ensures c.put_link-n.ensures)

pub returns-in-None : goal.returns-in-None
returns-in-None c =
    let count = count_of _ _ _ c.from-lines.ensures c.is_ignored.ensures in
    listing_done _ _ _ _ _ _ _ _
    (passed-at _ _ _ _ _ _ _ _ _ c.loop-lines.invariant count c.if-lines-gt-MOST_LINES.false _ _ _ c.line_link.result
    c.line_link.ensures c.put_link-n.ensures)
    c.in-None.ensures
