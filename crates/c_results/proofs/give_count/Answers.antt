-- `c_results::give_count` meets its contract: the result and the count of the report, case by case.
use mathlib.Core.Path.{◌∙◌}
use Rattle.c_results.specs.Results.{result_of, stored_value}
use Rattle.c_results.proofs.RefusalResults.{refused_result}
use Rattle.c_results.proofs.give_count.Goals as goal

pub returns-in-Ok : goal.returns-in-Ok
unfolding result_of stored_value
returns-in-Ok c = (rw c.in-Ok.is, rw c.in-Ok.is)

pub returns-in-Err : goal.returns-in-Err
unfolding result_of stored_value
returns-in-Err c =
    (rw c.in-Err.is (c.number.ensures ∙ refused_result c.in-Err.refused), rw c.in-Err.is)
