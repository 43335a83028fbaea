-- `link_list::first_link` meets its contract: the fields passed are no links.
use mathlib.Core.Path.{◌∙◌}
use Rattle.link_list.proofs.Links.{not_link, in_here, in_on, in_none}
use Rattle.link_list.proofs.first_link.Goals as goal

pub returns-in_default : goal.returns-in_default
returns-in_default c = c.loop-read.invariant ∙ in_none _ c.in_default.ensures

pub returns-in-Link : goal.returns-in-Link
returns-in-Link c =
    let p = c.in-Some.ensures in
    let q = rw c.in-Link.is at p.1 in
    (c.loop-read.invariant ∙ in_here _ _ _ p.0 _ q.0, q.1)

pub loop-read-preserved : goal.loop-read-preserved
loop-read-preserved c =
    let p = c.in-Some.ensures in
    c.loop-read.invariant ∙ in_on _ _ _ p.0 (not_link _ _ c.in-Some.field-0.read p.1 c.in_default-read.not-Link)
