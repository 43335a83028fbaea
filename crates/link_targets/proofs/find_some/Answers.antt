-- `link_targets::find_some` meets its contract: the fresh arrays are a table, and no number is settled.
use mathlib.Core.Path.{refl}
use native.Mathlib.Omega.{arith}
use lib.ListN.{replicate}
use Rattle.link_targets.proofs.Found.{at-most_zeros, first_table, copied_table, first_unsettled}
use Rattle.link_targets.proofs.find_some.Goals as goal

pub copy_names-requires-clause-at_most : goal.copy_names-requires-clause-at_most
copy_names-requires-clause-at_most c = at-most_zeros 64 512

pub list_names-count-requires : goal.list_names-count-requires
list_names-count-requires c =
    let fresh = first_table 512 (omega arith) (omega arith) (replicate 32768 0) (replicate 512 0) (replicate 512 0) refl refl refl in
    copied_table _ _ _ _ _ fresh c.copy_names.auto.bytes c.copy_names.auto.lens c.copy_names.ensures

pub settle_lines-requires-clause-unsettled : goal.settle_lines-requires-clause-unsettled
settle_lines-requires-clause-unsettled c = first_unsettled 512
