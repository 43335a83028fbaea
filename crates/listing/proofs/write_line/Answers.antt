-- `listing::write_line` meets its contract: the fields are those of the part that starts after the names.
use native.Mathlib.Omega.{arith}
use Rattle.spec.specs.Chain.{placed}
use Rattle.field_bounds.proofs.Parts.{part_fields}
use Rattle.field_bounds.proofs.Pieces.{no_fields}
use Rattle.listing.proofs.Passing.{pass_none}
use Rattle.listing.proofs.write_line.Goals as goal

pub returns-in_default : goal.returns-in_default
unfolding placed
returns-in_default c =
    let a = c.args in
    let p = c.in_default.ensures in
    (rw (no_fields _ p) (pass_none a.form a.seen.now a.out.now a.to), omega arith)

pub slice_bounds-write_fields-count : goal.slice_bounds-write_fields-count
slice_bounds-write_fields-count c =
    let p = c.in-Some.ensures in
    omega arith

pub slice_bounds-write_fields-start : goal.slice_bounds-write_fields-start
slice_bounds-write_fields-start c =
    let p = c.in-Some.ensures in
    omega arith

pub returns : goal.returns
returns c =
    let p = c.in-Some.ensures in
    rw (← part_fields _ _ _ _ p) c.write_fields.ensures
