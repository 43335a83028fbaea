-- `descriptions::judge_line` meets its contract: the fields are those of the part that starts after the names.
use native.Mathlib.Omega.{arith}
use Rattle.laws.proofs.Judging.{verdict-none}
use Rattle.field_bounds.proofs.Parts.{part_inside}
use Rattle.descriptions.proofs.WholeLine.{part_malformed, part_room, part_ends, part_links}
use Rattle.descriptions.proofs.judge_line.Goals as goal

pub returns-in_err-start : goal.returns-in_err-start
returns-in_err-start c =
    let e = c.in_err-start.was in
    let p = rw e at c.after_names.ensures in
    rw c.from_residual.ensures (verdict-none _ p)

pub returns-in_err-part : goal.returns-in_err-part
returns-in_err-part c =
    let s = c.in_ok-start.was in
    let p = rw s at c.after_names.ensures in
    let e = c.in_err-part.was in
    let q = rw e at c.judge_fields.ensures in
    rw c.from_residual-in_err-part.ensures (part_malformed _ _ _ _ p q)

pub overflow_add-size : goal.overflow_add-size
overflow_add-size c =
    let s = c.in_ok-start.was in
    let p = rw s at c.after_names.ensures in
    let e = c.in_ok-part.was in
    let q = rw e at c.judge_fields.ensures in
    omega (arith, part_room _ _ _ _ p, q.1)

pub overflow_add-size-2 : goal.overflow_add-size-2
overflow_add-size-2 c =
    let s = c.in_ok-start.was in
    let p = rw s at c.after_names.ensures in
    let e = c.in_ok-part.was in
    let q = rw e at c.judge_fields.ensures in
    omega (arith, part_room _ _ _ _ p, q.1)

pub returns-in-None : goal.returns-in-None
returns-in-None c =
    let s = c.in_ok-start.was in
    let p = rw s at c.after_names.ensures in
    let e = c.in_ok-part.was in
    let n = c.in-None.is in
    let q = rw (e, n) at c.judge_fields.ensures in
    part_ends _ _ _ _ p _ q

pub overflow_add-result : goal.overflow_add-result
overflow_add-result c =
    let s = c.in_ok-start.was in
    let p = rw s at c.after_names.ensures in
    let e = c.in_ok-part.was in
    let n = c.in-Some.is in
    let q = rw (e, n) at c.judge_fields.ensures in
    omega (arith, part_inside _ _ _ _ p _ q.0.1)

pub returns-in-Some : goal.returns-in-Some
returns-in-Some c =
    let s = c.in_ok-start.was in
    let p = rw s at c.after_names.ensures in
    let e = c.in_ok-part.was in
    let n = c.in-Some.is in
    let q = rw (e, n) at c.judge_fields.ensures in
    part_links _ _ _ _ p _ _ q
