-- `position::write_output` meets its contract, by the cases of the output.
use mathlib.Core.Path.{refl}
use native.Mathlib.Omega.{arith}
use Rattle.position.proofs.write_output.Goals as goal

pub overflow_add-result : goal.overflow_add-result
overflow_add-result c =
    let p = rw c.in-Single.is at c.requires in
    omega arith

pub write_number-requires : goal.write_number-requires
write_number-requires c = rw c.in-Number.is at c.requires

pub returns-in-Nothing : goal.returns-in-Nothing
returns-in-Nothing c = rw c.in-Nothing.is (omega arith, refl)

pub returns-in-Single : goal.returns-in-Single
returns-in-Single c = rw c.in-Single.is (refl, c.put_byte.ensures)

pub returns-in-Number : goal.returns-in-Number
returns-in-Number c = rw c.in-Number.is c.write_number.ensures
