-- `link_targets::settle_lines` meets its contract: what is settled so far, or else what the lines from `at` on settle, is what all lines settle.
use Prim.Native.Nat.{◌-◌, ◌≤◌}
use lib.ListN.{length}
use Rattle.name_table.specs.Table.{slot_of}
use Rattle.link_targets.proofs.Settling.{Lines}
use Rattle.link_targets.proofs.settle_lines.Given as goal

abbrev pub invariant-loop-n : goal.invariant-loop-n
invariant-loop-n l =
    (l.at ≤ length l.db)
    × Lines l.db (slot_of l.wanted.bytes.now l.wanted.lens.now l.wanted.order.now l.wanted.count) l.at l.firsts

abbrev pub decreases-loop-n : goal.decreases-loop-n
decreases-loop-n l = length l.db - l.at
