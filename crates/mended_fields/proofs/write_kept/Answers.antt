-- `mended_fields::write_kept` meets its contract: the kept fields before `at` are stored, and those from there on are left.
use mathlib.Core.Path.{sym}
use mathlib.Core.Bool.{false}
use native.Mathlib.Omega.{arith}
use Rattle.mended_fields.proofs.Storing.{storing_none, storing_bound, storing_more, storing_on, storing_last}
use Rattle.mended_fields.proofs.WrittenPieces.{kept-none, kept_next, kept_bound}
use Rattle.mended_fields.proofs.write_kept.Goals as goal

pub loop-part-init : goal.loop-part-init
loop-part-init c = storing_none _ _ _

pub overflow_add-result : goal.overflow_add-result
overflow_add-result c =
    let a = c.args in
    omega (arith, storing_bound _ _ _ _ _ _ c.loop-part.invariant, kept_bound a.s.now a.reason false 0)

pub returns-in_default : goal.returns-in_default
returns-in_default c =
    let p = c.in_default.ensures in
    storing_last _ _ _ _ _ _ c.loop-part.invariant 10 _ (kept-none _ _ _ _ p) c.put_after.ensures

pub overflow_add-to : goal.overflow_add-to
overflow_add-to c =
    let a = c.args in
    omega (arith, storing_bound _ _ _ _ _ _ c.loop-part.invariant, kept_bound a.s.now a.reason false 0)

pub write_part-n-requires : goal.write_part-n-requires
write_part-n-requires c =
    let p = c.in-Some.ensures in
    (c.requires.0, sym p.3)

pub overflow_add-n : goal.overflow_add-n
overflow_add-n c =
    let a = c.args in
    let p = c.in-Some.ensures in
    let w = c.write_part-n.ensures in
    omega (
      arith,
      storing_more _ _ _ _ _ _ c.loop-part.invariant _ _ _ _ _ (kept_next _ _ _ _ _ _ _ _ p) w,
      kept_bound a.s.now a.reason false 0,
    )

pub loop-part-smaller : goal.loop-part-smaller
loop-part-smaller c =
    let p = c.in-Some.ensures in
    omega arith

pub loop-part-preserved : goal.loop-part-preserved
loop-part-preserved c =
    let p = c.in-Some.ensures in
    let w = c.write_part-n.ensures in
    storing_on _ _ _ _ _ _ c.loop-part.invariant _ _ _ _ (kept_next _ _ _ _ _ _ _ _ p) w c.text-in-loop-part-1.given
