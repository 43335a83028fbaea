-- `field_bounds::after_names` meets its contract: the names are what stands before the line's first colon.
use Rattle.spec.specs.Fields.{names_of}
use Rattle.field_bounds.proofs.after_names.Goals as goal

pub returns : goal.returns
unfolding names_of
returns c =
    let e = c.in_ok-fields.was in
    let p = rw e at c.find_colon-colon.ensures in
    (p.1.0, p.1.1, p.0, p.1.2, p.1.3)
