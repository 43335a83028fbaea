-- `name_table::list_name` meets its contract: the table stays a table.
use native.Mathlib.Omega.{arith}
use Rattle.name_table.proofs.Inserting.{inserted_table, listed_found, listed_new}
use Rattle.name_table.proofs.list_name.Goals as goal

pub returns-then-slot_of-lens : goal.returns-then-slot_of-lens
returns-then-slot_of-lens c = (
  listed_found _ _ _ _ _ _ c.text_of-name.ensures _ c.slot_of.ensures c.if-slot_of-lens.true,
  omega arith,
  c.requires.table,
)

pub insert-requires : goal.insert-requires
insert-requires c =
    let t = c.requires.table in record { count_in_bounds = omega (arith, t.listed); at_le_count = omega arith }

pub returns : goal.returns
returns c =
    let t = c.requires.table in
    let made = c.insert.ensures in (
      listed_new _ _ _ _ _ _ c.text_of-name.ensures _
          c.slot_of.ensures c.if-slot_of-lens.false _
          c.place_in-at.ensures.0 _ made,
      omega arith,
      inserted_table _ _ _ _ _ _ _ t c.requires.j_in_bounds
          (omega arith) made,
    )
