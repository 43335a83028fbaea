-- `fields::read_from` meets its contract: the first byte says whether the field is ignored, blank, or named.
use Rattle.spec.specs.Fields.{reading}
use Rattle.field_bounds.proofs.FieldBytes.{passed_none}
use Rattle.fields.proofs.Contents.{reading_dot, reading_named, reading-blank}
use Rattle.fields.proofs.read_from.Goals as goal

pub returns-in-9 : goal.returns-in-9
returns-in-9 c =
    let p = c.in-Some.ensures in
    let r = c.read_blanks.ensures in
    (rw (p.0, reading-blank _ _ c.in-9.is) r.0, r.1 _ p.3)

pub returns-in-46 : goal.returns-in-46
returns-in-46 c =
    let p = c.in-Some.ensures in
    (rw p.0 (reading_dot _ _ c.in-46.is), p.3)

pub returns-in_default : goal.returns-in_default
returns-in_default c =
    let p = c.in-Some.ensures in
    let r = c.read_named.ensures in
    let rest = c.in_default.in_default-own.rest in
    (rw (p.0, reading_named _ _ rest.0.1 rest.1, ← p.0) r.0, r.1 _ (passed_none _ _))

pub returns-in-None : goal.returns-in-None
unfolding reading
returns-in-None c =
    let p = c.in-None.ensures in
    (rw p, passed_none _ _)
