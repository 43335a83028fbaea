-- `link_targets::find_alone` meets its contract: a table of one name finds it.
use native.Mathlib.Omega.{arith}
use lib.ListN.{length, replicate}
use Prim.Native.Nat.{◌≤◌}
use Rattle.link_targets.specs.Targets.{name_at}
use Rattle.link_targets.proofs.Copying.{read_back, copy_length}
use Rattle.link_targets.proofs.Found.{single_table, single_unsettled, single_found}
use Rattle.link_targets.proofs.find_alone.Goals as goal

pub invariant_of-wanted-clause-table : goal.invariant_of-wanted-clause-table
invariant_of-wanted-clause-table c =
    let a = c.args in
    let s = c.copy_name-n.ensures in
    single_table _ _ (copy_length (name_at a.db.now a.at) (replicate 64 0) _ s.1) (omega (arith, s.0, c.requires.at_len_bound))

pub settle_lines-requires-clause-unsettled : goal.settle_lines-requires-clause-unsettled
settle_lines-requires-clause-unsettled c = single_unsettled

pub returns : goal.returns
returns c =
    let a = c.args in
    let s = c.copy_name-n.ensures in
    let short : length (name_at a.db.now a.at) ≤ 64 = c.requires.at_len_bound in
    single_found _ _ _ _ _ (read_back (name_at a.db.now a.at) (replicate 64 0) _ _ s.1 s.0 (omega (arith, s.0, short)))
    c.settle_lines.ensures (omega arith)
