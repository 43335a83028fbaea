-- `fields::read_named` meets its contract: a field that starts with `tc=` is a link or malformed, and any other is none.
use Rattle.field_bounds.proofs.FieldBytes.{passed_over}
use Rattle.fields.proofs.Contents.{name_tc, no_link_lem}
use Rattle.fields.proofs.read_named.Goals as goal

pub returns-in-Some : goal.returns-in-Some
returns-in-Some c =
    let p = c.in-Some.ensures in
    let r = c.read_link_name.ensures in
    (rw (p.0, name_tc _) r.0, λ start q. r.1 start (passed_over _ _ _ _ _ _ q p.1))

pub returns-in-None : goal.returns-in-None
returns-in-None c =
    let p = c.in-None.ensures in
    let r = c.read_capability.ensures in
    (rw (no_link_lem _ p) r.0, r.1)
