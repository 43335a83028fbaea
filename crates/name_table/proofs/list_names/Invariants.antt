-- `name_table::list_names` meets its contract: at most as many names are listed as were looked at.
use Prim.Native.Nat.{◌≤◌}
use Rattle.name_table.specs.Table.{Table, listing, Lists}
use Rattle.name_table.proofs.list_names.Given as goal

abbrev pub invariant-loop-j : goal.invariant-loop-j
invariant-loop-j l =
    (l.count ≤ l.j) × Table l.bytes l.lens l.order × Lists l.order l.count (listing l.bytes l.lens l.initial.order l.j)
