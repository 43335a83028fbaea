-- `repair::mend_lines` meets its contract: what is stored, with what the lines from `at` on give, is all (`Going`, `Gone`).
use Prim.Native.Nat.{◌-◌}
use lib.ListN.{length}
use Rattle.repair.proofs.Mending.{Going}
use Rattle.repair.proofs.mend_lines.Given as goal

abbrev pub invariant-loop-next : goal.invariant-loop-next
invariant-loop-next l =
    Going l.db l.ats l.initial.text l.initial.records l.text l.records l.at l.number l.k l.bytes l.count

abbrev pub decreases-loop-next : goal.decreases-loop-next
decreases-loop-next l = length l.db - l.at
