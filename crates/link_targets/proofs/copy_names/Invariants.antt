-- `link_targets::copy_names` meets its contract: no name in the table has more than 64 bytes.
use Rattle.name_table.specs.Table.{AtMost}
use Rattle.link_targets.proofs.copy_names.Given as goal

abbrev pub invariant-loop-j : goal.invariant-loop-j
invariant-loop-j l = AtMost 64 l.lens
