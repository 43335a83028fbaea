-- `mended_fields::ends_in_backslash` meets its contract: the last byte passed, with the field from `i` on, ends as the field does.
use mathlib.Core.Path.{◌∙◌, sym}
use native.Mathlib.Omega.{arith}
use Rattle.mended_fields.proofs.WrittenPieces.{ends-start, ends_on, ends_last}
use Rattle.mended_fields.proofs.ends_in_backslash.Goals as goal

pub loop-b-init : goal.loop-b-init
loop-b-init c = ends-start _

pub loop-b-smaller : goal.loop-b-smaller
loop-b-smaller c =
    let p = c.in-Some.ensures in
    omega arith

pub loop-b-preserved : goal.loop-b-preserved
loop-b-preserved c =
    let p = c.in-Some.ensures in
    c.loop-b.invariant ∙ rw p.0 (ends_on _ _ _)

pub returns-in-None : goal.returns-in-None
returns-in-None c =
    let p = c.in-None.ensures in
    sym (c.loop-b.invariant ∙ rw p (ends_last _))
