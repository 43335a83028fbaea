-- `chain::find_linked` meets its contract: the copy's front is the name.
use Rattle.laws.proofs.Stores.{stored_taken}
use Rattle.chain.proofs.find_linked.Goals as goal

pub slice_bounds-find_from-end : goal.slice_bounds-find_from-end
slice_bounds-find_from-end c =
    let e = c.copy_field-n.ensures in
    rw (e.1, stored_taken _ _ c.requires.1 _ e.0) e.0

pub returns : goal.returns
returns c =
    let e = c.copy_field-n.ensures in
    rw (c.find_from.ensures, e.1, stored_taken _ _ c.requires.1 _ e.0)
