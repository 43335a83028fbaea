-- `mended_fields::next_part` meets its contract: the field read, its colon looked for.
use native.Mathlib.Omega.{arith}
use Rattle.mended_fields.proofs.WrittenPieces.{no_part, part_closed, part_open, part_fits}
use Rattle.mended_fields.proofs.next_part.Goals as goal

pub returns-in_err-field : goal.returns-in_err-field
returns-in_err-field c =
    let e = c.in_err-field.was in
    let p = rw e at c.next_field.ensures in
    rw c.from_residual.ensures (no_part _ _ p)

pub overflow_add-result : goal.overflow_add-result
overflow_add-result c =
    let e = c.in_ok-field.was in
    let p = rw e at c.next_field.ensures in
    omega (arith, part_fits _ _ _ _ p.0 p.2)

pub returns-in-Some : goal.returns-in-Some
returns-in-Some c =
    let e = c.in_ok-field.was in
    let p = rw e at c.next_field.ensures in
    let h = c.in-Some.ensures in
    let w = part_closed _ _ _ _ p.0 p.2 _ _ h in
    let why = c.field_reason.ensures _ _ p.1 in
    let link = c.link_up_to.ensures _ _ p.1 in
    (w.0, why, link, w.1, h.3, h.4)

pub returns-in-None : goal.returns-in-None
returns-in-None c =
    let e = c.in_ok-field.was in
    let p = rw e at c.next_field.ensures in
    let h = c.in-None.ensures in
    let w = part_open _ _ _ _ p.0 p.2 h in
    let why = c.field_reason.ensures _ _ p.1 in
    let link = c.link_up_to.ensures _ _ p.1 in
    (w.0, why, link, w.1, p.3, p.4)
