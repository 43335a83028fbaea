-- `fields::next_field` meets its contract: the field goes on from where its reader stopped.
use native.Mathlib.Omega.{arith}
use Rattle.field_bounds.proofs.WholeFields.{field_bound, bounds_over, bounds_none, bounds_last}
use Rattle.fields.proofs.next_field.Goals as goal

pub overflow_add-result : goal.overflow_add-result
overflow_add-result c =
    let p = c.in-Some.ensures in
    omega (arith, field_bound _ _ _ _ (bounds_over _ _ _ _ c.read_from-read.ensures.1 _ _ p))

pub returns-in-None : goal.returns-in-None
returns-in-None c =
    let p = c.in-None.ensures in
    bounds_none _ _ _ _ c.read_from-read.ensures.1 p (omega arith)

pub returns-in-Some : goal.returns-in-Some
returns-in-Some c =
    let p = c.in-Some.ensures in
    let r = c.read_from-read.ensures in
    let w = bounds_over _ _ _ _ r.1 _ _ p in
    (w.0, r.0, w.1, w.2, w.3)

pub returns-in-None-2 : goal.returns-in-None-2
returns-in-None-2 c =
    let p = c.in-None.ensures in
    let r = c.read_from-read.ensures in
    let w = bounds_last _ _ _ _ r.1 p (λ e. omega arith) in
    (w.0, r.0, w.1, w.2, w.3)
