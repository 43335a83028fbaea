-- `batch::note_line` meets its contract: the fields are those of the part that starts after the names.
use native.Mathlib.Omega.{arith}
use Rattle.spec.specs.Chain.{placed}
use Rattle.field_bounds.proofs.Parts.{part_fields}
use Rattle.field_bounds.proofs.Pieces.{no_fields}
use Rattle.batch.proofs.Noting.{notes_nothing}
use Rattle.batch.proofs.note_line.Goals as goal

pub returns-in_default : goal.returns-in_default
unfolding placed
returns-in_default c place file =
    let a = c.args in
    let p = c.in_default.ensures in
    rw (no_fields _ p) (notes_nothing a.tables.now)

pub slice_bounds-note_fields-count : goal.slice_bounds-note_fields-count
slice_bounds-note_fields-count c =
    let p = c.in-Some.ensures in
    omega arith

pub slice_bounds-note_fields-start : goal.slice_bounds-note_fields-start
slice_bounds-note_fields-start c =
    let p = c.in-Some.ensures in
    omega arith

pub returns : goal.returns
returns c place file =
    let p = c.in-Some.ensures in
    rw (← part_fields _ _ _ _ p) (c.note_fields.ensures place file)
