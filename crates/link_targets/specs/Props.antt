-- That a table is a table can be shown in one way only, so a struct can carry it.
use Rattle.std.specs.Prelude.{ℕ, List}
use Rattle.std.specs.Coded.{le_prop}
use Rattle.std.proofs.Props.{props}
use Rattle.name_table.specs.Table.{Table, AtMost}

at-most_prop : (most : ℕ) (l : List ℕ) → IsProp (AtMost most l)
unfolding AtMost
at-most_prop most l = hlevel le_prop

pub table-prop : (bytes lens order : List ℕ) → IsProp (Table bytes lens order)
table-prop bytes lens order = hlevel (props, at-most_prop)
