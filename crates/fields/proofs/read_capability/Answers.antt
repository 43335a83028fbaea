-- `fields::read_capability` meets its contract: two bytes that are an id, and then the content.
use mathlib.Core.Path.{◌∙◌, sym}
use Rattle.field_bounds.proofs.FieldBytes.{passed_over}
use Rattle.fields.specs.Readings.{other_reading}
use Rattle.fields.proofs.Contents.{other_id, other_no_id}
use Rattle.fields.proofs.read_capability.Goals as goal

pub returns-in_default : goal.returns-in_default
unfolding other_reading
returns-in_default c =
    let p = c.in_default.ensures in
    (rw p, λ start q. q)

pub returns-in_default-field_byte : goal.returns-in_default-field_byte
unfolding other_reading
returns-in_default-field_byte c =
    let p = c.in-Some.ensures in
    let q = c.in_default-field_byte.ensures in
    (rw (p.0, q), λ start o. passed_over _ _ _ _ _ _ o p.3)

pub returns-then-not-is_id : goal.returns-then-not-is_id
returns-then-not-is_id c =
    let p = c.in-Some.ensures in
    let q = c.in-Some-field_byte.ensures in
    let no = sym c.is_id.ensures ∙ c.if-not-is_id.true in
    (rw (p.0, q.0) (other_no_id _ _ _ no), λ start o. passed_over _ _ _ _ _ _ (passed_over _ _ _ _ _ _ o p.3) q.3)

pub returns : goal.returns
returns c =
    let p = c.in-Some.ensures in
    let q = c.in-Some-field_byte.ensures in
    let yes = sym c.is_id.ensures ∙ c.if-not-is_id.false in
    let r = c.read_content.ensures in
    (rw (p.0, q.0, other_id _ _ _ yes) r.0, λ start o. r.1 start (passed_over _ _ _ _ _ _ (passed_over _ _ _ _ _ _ o p.3) q.3))
