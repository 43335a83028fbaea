-- `name_table::insert` meets its contract: what stood from the place on has moved up.
use Rattle.name_table.proofs.Inserting.{inserted_is}
use Rattle.name_table.proofs.insert.Goals as goal

pub returns : goal.returns
returns c = inserted_is _ _ _ c.requires.count_in_bounds c.requires.at_le_count _ _ c.copy_within.ensures.after
