-- `fields::read_cancel` meets its contract: nothing may follow.
use Rattle.spec.specs.Fields.{content_reading}
use Rattle.field_bounds.proofs.FieldBytes.{passed_over}
use Rattle.fields.proofs.Contents.{cancel_more}
use Rattle.fields.proofs.read_cancel.Goals as goal

pub returns-in-Some : goal.returns-in-Some
returns-in-Some c =
    let p = c.in-Some.ensures in
    (rw p.0 (cancel_more _ _ _ _), λ start q. passed_over _ _ _ _ _ _ q p.3)

pub returns-in-None : goal.returns-in-None
unfolding content_reading
returns-in-None c =
    let p = c.in-None.ensures in
    (rw p, λ start q. q)
