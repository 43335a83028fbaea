-- `fields::read_number` meets its contract: the digits decide.
use Rattle.field_bounds.proofs.FieldBytes.{passed_over}
use Rattle.spec.specs.Fields.{content_reading}
use Rattle.fields.proofs.read_number.Goals as goal

pub returns-in-Some : goal.returns-in-Some
unfolding content_reading
returns-in-Some c =
    let e = c.in-Some.is in
    let p = rw e at c.read_digits-digits.ensures in
    (rw (p.0.0, p.0.1), λ start q. passed_over _ _ _ _ _ _ q p.1)

pub returns-in-None : goal.returns-in-None
unfolding content_reading
returns-in-None c =
    let e = c.in-None.is in
    let p = rw e at c.read_digits-digits.ensures in
    (rw p.0, λ start q. passed_over _ _ _ _ _ _ q p.1)
