-- `field_bounds::find_colon` meets its contract: what was passed is `length` bytes of the field, none a colon or a newline.
use native.Mathlib.Omega.{arith}
use Rattle.field_bounds.proofs.FieldBytes.{passed_on, passed-colon, passed-newline, passed-end}
use Rattle.field_bounds.proofs.find_colon.Goals as goal

pub returns-in-10 : goal.returns-in-10
returns-in-10 c =
    let p = c.in-Some.ensures in
    let w = passed-newline _ _ _ _ _ _ c.loop-b.invariant p.0 p.1 c.in-10.is in
    (w.1, w.0)

pub returns-in-58 : goal.returns-in-58
returns-in-58 c =
    let p = c.in-Some.ensures in
    let w = passed-colon _ _ _ _ _ _ c.loop-b.invariant p.0 p.1 c.in-58.is in
    (w.2, (w.0, w.1, omega arith, p.2))

pub returns-in-None : goal.returns-in-None
returns-in-None c =
    let p = c.in-None.ensures in
    let w = passed-end _ _ _ _ c.loop-b.invariant p in
    (w.1, w.0)

pub loop-b-preserved : goal.loop-b-preserved
loop-b-preserved c =
    let p = c.in-Some.ensures in
    passed_on _ _ _ _ _ _ c.loop-b.invariant p.0 p.1 (λ e. omega arith) (λ e. omega arith)
