-- `mended_lines::put_changed` meets its contract: the names, a colon, and the fields that are kept.
use mathlib.Core.Bool.{false}
use native.Mathlib.Omega.{arith}
use Rattle.field_bounds.proofs.Parts.{part}
use Rattle.mended_fields.proofs.WrittenPieces.{kept_bound}
use Rattle.mended_lines.proofs.MendedLine.{part_short, names-short, put-changed}
use Rattle.mended_lines.proofs.put_changed.Goals as goal

pub overflow_add-n : goal.overflow_add-n
overflow_add-n c =
    omega (arith, c.requires.0, names-short _ _ _ _ c.requires.1)

pub overflow_add-to : goal.overflow_add-to
overflow_add-to c =
    omega (arith, c.requires.0, c.requires.2, names-short _ _ _ _ c.requires.1)

pub write_kept-requires : goal.write_kept-requires
write_kept-requires c =
    let n = names-short _ _ _ _ c.requires.1 in
    (omega (arith, c.requires.0, part_short c.args.db.now c.args.start.fields), omega (arith, c.requires.0, c.requires.2))

pub overflow_add-result : goal.overflow_add-result
overflow_add-result c =
    let s = part c.args.db.now c.args.start.fields in
    omega (
      arith,
      c.requires.0,
      names-short _ _ _ _ c.requires.1,
      c.write_kept.ensures.count,
      kept_bound s c.args.reason false 0,
      part_short c.args.db.now c.args.start.fields,
    )

pub returns : goal.returns
returns c =
    let names = c.copy_field.ensures.1 in
    let colon = c.put_after.ensures in
    put-changed _ _ _ _ c.requires.1 _ c.args.text.now c.args.to _ _ names colon _ _ c.write_kept.ensures
