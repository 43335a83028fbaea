-- `link_targets::settle_names` meets its contract: what is settled so far, and what the names from `p` on settle, is what all of them settle.
use Prim.Native.Nat.{◌-◌}
use lib.ListN.{length}
use Rattle.spec.specs.Lines.{line_at}
use Rattle.name_table.specs.Table.{slot_of}
use Rattle.link_targets.specs.Targets.{any_numbered, line_names}
use Rattle.link_targets.proofs.Settling.{Settling}
use Rattle.link_targets.proofs.settle_names.Given as goal

abbrev pub invariant-loop-n : goal.invariant-loop-n
invariant-loop-n l =
    let number = slot_of l.wanted.bytes.now l.wanted.lens.now l.wanted.order.now l.wanted.count in
    Settling l.at (any_numbered number (line_names (line_at l.db l.at))) l.initial.firsts (any_numbered number (line_names (line_at l.db l.p))) l.firsts

abbrev pub decreases-loop-n : goal.decreases-loop-n
decreases-loop-n l = length l.db - l.p
