-- The parameters that eight bytes hold: the bridge to the definitions of `spec`, which speak of `Parameters`.
use Rattle.std.specs.Prelude.{ℕ, Option, Some, None}
use Rattle.spec.specs.Values.{holding}
use Rattle.spec.specs.declared.position.Parameter.{Parameter}
use Rattle.spec.specs.declared.position.Parameter.TheVariants.{Row, Column}
use Rattle.spec.specs.declared.position.Used.{Used}
use Rattle.spec.specs.declared.position.Parameters.{Parameters}
use Rattle.spec.specs.declared.position.Parameters.TheVariants.{TwoUnused, OneUnused, AllUsed}
use Rattle.places.specs.declared.Places.{Places}
use Rattle.places.specs.declared.Turn.{Turn}
use Rattle.places.specs.declared.Turn.TheVariants.{RowColumn, ColumnRow, ColumnLeft, RowLeft, RowFirst, ColumnFirst}

-- The row once it is used, and the column.
abbrev pub used_row : Places → Used
used_row s = record { parameter = Row s.row; compensations = s.ups }

abbrev pub used_column : Places → Used
used_column s = record { parameter = Column s.column; compensations = s.backs }

abbrev pub in_turn : Turn → Places → Parameters
in_turn RowColumn s = TwoUnused (Row s.row) (Column s.column)
in_turn ColumnRow s = TwoUnused (Column s.column) (Row s.row)
in_turn ColumnLeft s = OneUnused (used_row s) (Column s.column)
in_turn RowLeft s = OneUnused (used_column s) (Row s.row)
in_turn RowFirst s = AllUsed (used_row s) (used_column s)
in_turn ColumnFirst s = AllUsed (used_column s) (used_row s)

unfoldable pub parameters_of : Places → Parameters
parameters_of s = in_turn s.turn s

-- The next parameter, and the parameters with another value of it.
abbrev pub next_of : Parameters → Option Parameter
next_of (TwoUnused p q) = Some p
next_of (OneUnused u p) = Some p
next_of (AllUsed u v) = None

abbrev pub with_next_value : Parameters → ℕ → Parameters
with_next_value (TwoUnused p q) h = TwoUnused (holding p h) q
with_next_value (OneUnused u p) h = OneUnused u (holding p h)
with_next_value (AllUsed u v) h = AllUsed u v
