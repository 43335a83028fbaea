-- `mended_fields::record_fields` meets its contract: the records of the fields before `at` are stored, and those from there on are left.
use mathlib.Core.Path.{refl}
use native.Mathlib.Omega.{arith}
use Rattle.field_bounds.proofs.LineBounds.{line_bound}
use Rattle.mended_fields.proofs.Storing.{storing_none, storing_on, storing_done}
use Rattle.mended_fields.proofs.WrittenPieces.{records-none, records-next, line-next, record_short}
use Rattle.mended_fields.proofs.record_fields.Goals as goal

pub loop-part-init : goal.loop-part-init
loop-part-init c = record { stored = storing_none _ _ _; few = omega arith; within = omega arith; placed = refl }

pub returns-in_default : goal.returns-in_default
returns-in_default c =
    let p = c.in_default.ensures in
    storing_done _ _ _ _ _ _ c.loop-part.invariant.stored (records-none _ _ _ _ p _ _)

pub overflow_add-n : goal.overflow_add-n
overflow_add-n c = omega (arith, record_short _ _ _ _ _ _ _ _ c.record_part-n.ensures)

pub overflow_add-here : goal.overflow_add-here
overflow_add-here c =
    let l = c.loop-part in
    let p = c.in-Some.ensures in
    omega (arith, l.invariant.placed, line-next _ _ _ _ _ _ _ _ p, line_bound c.args.s.now 0)

pub loop-part-smaller : goal.loop-part-smaller
loop-part-smaller c =
    let p = c.in-Some.ensures in
    omega arith

pub loop-part-preserved : goal.loop-part-preserved
loop-part-preserved c =
    let l = c.loop-part in
    let p = c.in-Some.ensures in
    let w = c.record_part-n.ensures in
    record {
      stored = storing_on _ _ _ _ _ _ l.invariant.stored _ _ _ _ (records-next _ _ _ _ _ _ _ _ p _ _) w c.records-1.given;
      few = omega (arith, record_short _ _ _ _ _ _ _ _ w);
      within = p.5;
      placed = omega (arith, l.invariant.placed, line-next _ _ _ _ _ _ _ _ p);
    }
