-- `name_table::place_in` meets its contract: halving from `low` to `high` ends where all of it ends.
use Prim.Native.Nat.{◌-◌}
use Rattle.name_table.specs.Table.{listed_before}
use Rattle.name_table.proofs.Laws.{Halving}
use Rattle.name_table.proofs.place_in.Given as goal

abbrev pub invariant-loop-low : goal.invariant-loop-low
invariant-loop-low l = Halving l.count (listed_before l.bytes l.lens l.order l.name) l.low l.high

abbrev pub decreases-loop-low : goal.decreases-loop-low
decreases-loop-low l = l.high - l.low
