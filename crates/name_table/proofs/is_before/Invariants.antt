-- `name_table::is_before` meets its contract: what is compared stands from the place i on in both texts.
use mathlib.Core.Path.{◌≡◌}
use Rattle.name_table.specs.Table.{before}
use Rattle.name_table.proofs.Laws.{onward}
use Rattle.name_table.proofs.is_before.Given as goal

abbrev pub invariant-loop-i : goal.invariant-loop-i
invariant-loop-i l = before l.a l.b ≡ before (onward l.a l.i) (onward l.b l.i)
