-- `descriptions::judge_fields` meets its contract: up to a place no field is malformed or a link, so the rest decides.
use Prim.Native.Nat.{◌-◌}
use lib.ListN.{length}
use Rattle.descriptions.proofs.Judging.{Judging}
use Rattle.descriptions.proofs.judge_fields.Given as goal

abbrev pub invariant-loop-read : goal.invariant-loop-read
invariant-loop-read l = Judging l.s l.at l.size

abbrev pub decreases-loop-read : goal.decreases-loop-read
decreases-loop-read l = length l.s - l.at
