-- `compensations::append_compensations` meets its contract, by the turn.
use native.Mathlib.Omega.{arith}
use mathlib.Core.Path.{refl, sym, ◌∙◌}
use Rattle.spec.specs.Position.{compensations}
use Rattle.places.specs.Places.{parameters_of}
use Rattle.compensations.proofs.Appending.{then_appended, settled}
use Rattle.compensations.proofs.append_compensations.Goals as goal

pub returns-then-owes_nothing : goal.returns-then-owes_nothing
returns-then-owes_nothing c =
    let a = c.args in
    rw (settled a.back.now a.up.now a.ps (sym c.owes_nothing.ensures ∙ c.if-owes_nothing.true)) (omega arith, c.requires, refl)

pub returns-in_ok-next-in-RowFirst : goal.returns-in_ok-next-in-RowFirst
unfolding compensations parameters_of
returns-in_ok-next-in-RowFirst c =
    rw (c.in-RowFirst.is, ← c.compensation_of_row-for_row.ensures, ← c.compensation_of_column-for_column.ensures)
    (then_appended _ _ _ _ _ _ _ _ _ c.in_ok-next-in-RowFirst.ensures c.append_times-in-RowFirst-2.ensures)

pub returns-in_ok-next-in-ColumnFirst : goal.returns-in_ok-next-in-ColumnFirst
unfolding compensations parameters_of
returns-in_ok-next-in-ColumnFirst c =
    rw (c.in-ColumnFirst.is, ← c.compensation_of_row-for_row.ensures, ← c.compensation_of_column-for_column.ensures)
    (then_appended _ _ _ _ _ _ _ _ _ c.in_ok-next-in-ColumnFirst.ensures c.append_times-in-ColumnFirst-2.ensures)
