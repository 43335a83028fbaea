-- `fields::read_content` meets its contract: the byte after the name says what the rest is read as.
use Rattle.field_bounds.proofs.FieldBytes.{passed_over}
use Rattle.spec.specs.Fields.{content_reading}
use Rattle.fields.proofs.Contents.{content_other}
use Rattle.fields.proofs.read_content.Goals as goal

pub returns-in_default : goal.returns-in_default
returns-in_default c =
    let p = c.in-Some.ensures in (
      rw p.0 (content_other _ _ _ _ c.in_default.in_default-own.rest.0.0.1 c.in_default.in_default-own.rest.0.1 c.in_default.in_default-own.rest.1),
      λ start q. passed_over _ _ _ _ _ _ q p.3,
    )

pub returns-in-None : goal.returns-in-None
unfolding content_reading
returns-in-None c =
    let p = c.in-None.ensures in
    (rw p, λ start q. q)
