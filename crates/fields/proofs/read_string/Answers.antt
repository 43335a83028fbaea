-- `fields::read_string` meets its contract: the text decides, and its decoded bytes are only counted.
use Rattle.spec.specs.Fields.{content_reading, string_reading}
use Rattle.field_bounds.proofs.FieldBytes.{passed_over}
use Rattle.fields.proofs.read_string.Goals as goal

pub returns-in-Some : goal.returns-in-Some
unfolding content_reading string_reading
returns-in-Some c =
    let e = c.in-Some.is in
    let p = rw e at c.measure_text-text.ensures in
    ((p.0.0, rw p.0.1, p.0.1, p.0.2), λ start q. passed_over _ _ _ _ _ _ q p.1)

pub returns-in-None : goal.returns-in-None
unfolding content_reading string_reading
returns-in-None c =
    let e = c.in-None.is in
    let p = rw e at c.measure_text-text.ensures in
    (rw p.0, λ start q. passed_over _ _ _ _ _ _ q p.1)
