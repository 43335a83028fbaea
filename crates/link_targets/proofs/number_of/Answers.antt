-- `link_targets::number_of` meets its contract: a name is found by its bytes; one of more than 64 has no number.
use mathlib.Core.Path.{ap, ◌∙◌}
use native.Mathlib.Omega.{arith}
use lib.ListN.{replicate}
use Rattle.name_table.specs.Table.{slot_of}
use Rattle.link_targets.specs.Targets.{name_at}
use Rattle.link_targets.proofs.Copying.{read_back, part_length}
use Rattle.link_targets.proofs.Found.{slot_past}
use Rattle.link_targets.proofs.number_of.Goals as goal

pub returns-then-n-gt-NAME_BYTES : goal.returns-then-n-gt-NAME_BYTES
returns-then-n-gt-NAME_BYTES c = slot_past _ _ _ _ _ c.args.wanted.now.table (omega (arith, c.copy_name-n.ensures.0))

pub slice_bounds-slot_of-end : goal.slice_bounds-slot_of-end
slice_bounds-slot_of-end c =
    let s = c.copy_name-n.ensures in
    part_length (name_at c.args.db.now c.args.at) (replicate 64 0) _ _ s.1 s.0 (omega arith)

pub returns : goal.returns
returns c =
    let w = c.args.wanted.now in
    let s = c.copy_name-n.ensures in
    c.slot_of.ensures ∙ ap (slot_of w.bytes.now w.lens.now w.order.now w.count)
    (read_back (name_at c.args.db.now c.args.at) (replicate 64 0) _ _ s.1 s.0 (omega arith))
