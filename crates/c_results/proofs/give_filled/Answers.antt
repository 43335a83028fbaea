-- `c_results::give_filled` meets its contract: the result, the delay, the star and the count of the report, case by case.
use mathlib.Core.Path.{◌∙◌}
use Rattle.c_results.specs.Results.{result_of, stored_value, stored_second, stored_third}
use Rattle.c_results.proofs.RefusalResults.{refused_result}
use Rattle.c_results.proofs.give_filled.Goals as goal

pub returns-in-Ok : goal.returns-in-Ok
unfolding result_of stored_value stored_second stored_third
returns-in-Ok c = let e = c.in-Ok.is in (rw e, rw e, rw e c.bit.ensures, rw e)

pub returns-in-Err : goal.returns-in-Err
unfolding result_of stored_value stored_second stored_third
returns-in-Err c =
    (rw c.in-Err.is (c.number.ensures ∙ refused_result c.in-Err.r), rw c.in-Err.is, rw c.in-Err.is, rw c.in-Err.is)
