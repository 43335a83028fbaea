-- `link_list::line_link` meets its contract: the fields are those of the part that starts after the names.
use native.Mathlib.Omega.{arith}
use Rattle.field_bounds.proofs.Parts.{part_inside}
use Rattle.link_list.proofs.Links.{ignored-line, dropped_line, part_linked, part_none, seen}
use Rattle.link_list.proofs.line_link.Goals as goal

pub returns-then-is_ignored : goal.returns-then-is_ignored
returns-then-is_ignored c = ignored-line _ (seen _ _ _ _ c.is_ignored.ensures c.if-is_ignored.true)

pub returns-in_default : goal.returns-in_default
returns-in_default c = dropped_line _ (seen _ _ _ _ c.is_ignored.ensures c.if-is_ignored.false) c.in_default.ensures

pub overflow_add-result : goal.overflow_add-result
overflow_add-result c =
    let p = rw c.in-Some.is at c.after_names.ensures in
    omega (arith, part_inside _ _ _ _ p _ c.in-Some-first_link.ensures.1)

pub returns-in-Some-first_link : goal.returns-in-Some-first_link
returns-in-Some-first_link c =
    part_linked _ _ _ _ c.in-Some.ensures (seen _ _ _ _ c.is_ignored.ensures c.if-is_ignored.false) _ c.in-Some-first_link.ensures

pub returns-in-None : goal.returns-in-None
returns-in-None c =
    part_none _ _ _ _ c.in-Some.ensures (seen _ _ _ _ c.is_ignored.ensures c.if-is_ignored.false) c.in-None.ensures
