-- `link_targets::copy_names` meets its contract: no name in the table has more than 64 bytes.
use Rattle.name_table.proofs.Laws.{at-most-set}
use Rattle.link_targets.proofs.copy_names.Goals as goal

pub loop-j-preserved : goal.loop-j-preserved
loop-j-preserved c = at-most-set _ _ _ _ c.loop-j.invariant c.if-n-gt-NAME_BYTES.false
