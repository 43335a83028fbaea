-- `name_table::list_names` meets its contract: at most as many names are listed as were looked at.
use native.Mathlib.Omega.{arith}
use Rattle.name_table.proofs.Inserting.{listing_first, listing-next}
use Rattle.name_table.proofs.list_names.Goals as goal

pub loop-j-init : goal.loop-j-init
loop-j-init c = (omega arith, c.requires, listing_first _ _ _)

pub loop-j-preserved : goal.loop-j-preserved
loop-j-preserved c =
    let p = c.list_name-count.ensures in
    (p.1, p.2, listing-next _ _ _ _ _ _ _ _ c.loop-j.invariant.2 p.0)
