-- `c_results::give_part` meets its contract: the ends of the part, as start and length.
use mathlib.Core.Path.{◌∙◌}
use native.Mathlib.Omega.{arith}
use Rattle.c_results.specs.Results.{result_of, stored_value, stored_length}
use Rattle.c_results.proofs.RefusalResults.{refused_result}
use Rattle.c_results.proofs.give_part.Goals as goal

pub overflow_sub-length : goal.overflow_sub-length
overflow_sub-length c = let h = rw c.in-Ok.is at c.requires in omega (arith, h)

pub returns-in-Ok : goal.returns-in-Ok
unfolding result_of stored_value stored_length
returns-in-Ok c = let e = c.in-Ok.is in (rw e, rw e, rw e)

pub returns-in-Err : goal.returns-in-Err
unfolding result_of stored_value stored_length
returns-in-Err c =
    (rw c.in-Err.is (c.number.ensures ∙ refused_result c.in-Err.r), rw c.in-Err.is, rw c.in-Err.is)
