-- `fields::read_digits` meets its contract: the digits up to the place `stop` are `passed`, with the value `v` in the base.
use Prim.Native.Nat.{◌-◌}
use lib.ListN.{length}
use Rattle.fields.proofs.Numbers.{Counted}
use Rattle.fields.proofs.read_digits.Given as goal

abbrev pub invariant-loop-b : goal.invariant-loop-b
invariant-loop-b l = Counted l.base l.s l.at l.stop l.passed l.v

abbrev pub decreases-loop-b : goal.decreases-loop-b
decreases-loop-b l = length l.s - l.stop
