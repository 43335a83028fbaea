-- `questions::write_at` meets its contract: the part that is written from is the rest of the file.
use native.Mathlib.Omega.{arith}
use Rattle.field_bounds.proofs.Parts.{part_is}
use Rattle.questions.proofs.write_at.Goals as goal

pub slice_bounds-write_text-count : goal.slice_bounds-write_text-count
slice_bounds-write_text-count c = let p = rw (← c.file-part.ensures) at c.requires.1 in omega (arith, p)

pub slice_bounds-write_text-start : goal.slice_bounds-write_text-start
slice_bounds-write_text-start c = let p = rw (← c.file-part.ensures) at c.requires.1 in omega (arith, p)

pub write_text-requires : goal.write_text-requires
write_text-requires c =
    let f = c.file-part in
    let p = c.requires in
    (p.0, rw (part_is f.result.now _) (rw (← f.ensures) at p.2))

pub returns : goal.returns
returns c =
    let f = c.file-part in
    rw (← f.ensures) (rw (part_is f.result.now _) at c.write_text.ensures)
