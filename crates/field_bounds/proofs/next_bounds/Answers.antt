-- `field_bounds::next_bounds` meets its contract: after a last field without a colon nothing follows, and the end of `s` has no field.
use native.Mathlib.Omega.{arith}
use Rattle.field_bounds.proofs.Pieces.{piece_then_lem, piece_last, fields-none}
use Rattle.field_bounds.proofs.LineBounds.{last_field, field_inside}
use Rattle.field_bounds.proofs.next_bounds.Goals as goal

pub returns-in-Some : goal.returns-in-Some
returns-in-Some c =
    let e = c.in-Some.is in
    let p = rw e at c.find_colon-colon.ensures in
    (rw (← p.1.1) (piece_then_lem _ p.1.0), p.0, p.1.2, p.1.3)

pub returns-in-None : goal.returns-in-None
returns-in-None c =
    let e = c.in-None.is in
    let p = rw e at c.find_colon-colon.ensures in
    fields-none _ p.1 (omega arith)

pub returns-in-None-2 : goal.returns-in-None-2
returns-in-None-2 c =
    let e = c.in-None.is in
    let p = rw e at c.find_colon-colon.ensures in
    let last = piece_last _ p.1 (λ e. omega arith) in
    (last_field _ _ _ last, p.0, field_inside _ _ _ _ last, omega arith)
