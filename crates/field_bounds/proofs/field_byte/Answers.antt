-- `field_bounds::field_byte` meets its contract: a colon or a newline ends the field, any other byte is its first.
use Rattle.field_bounds.proofs.FieldBytes.{field_goes, passed-byte}
use Rattle.field_bounds.proofs.field_byte.Goals as goal

pub returns-in_default : goal.returns-in_default
returns-in_default c =
    let p = c.in_ok-b.ensures in
    (field_goes _ _ _ _ p.0 search, p.1, p.2, passed-byte _ _ _ _ p.0 p.1 search)
