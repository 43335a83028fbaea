-- `c_results::give_answer` meets its contract: the result and the value of the report, case by case.
use mathlib.Core.Path.{◌∙◌}
use Rattle.c_results.specs.Results.{result_of, stored_value}
use Rattle.c_results.proofs.RefusalResults.{refused_result}
use Rattle.c_results.proofs.give_answer.Goals as goal

pub returns-in-Some : goal.returns-in-Some
unfolding result_of stored_value
returns-in-Some c = let e = c.in-Ok.is in let i = c.in-Some.is in (rw (e, i), rw (e, i))

pub returns-in-None : goal.returns-in-None
unfolding result_of stored_value
returns-in-None c = let e = c.in-Ok.is in let i = c.in-None.is in (rw (e, i), rw (e, i))

pub returns-in-Err : goal.returns-in-Err
unfolding result_of stored_value
returns-in-Err c =
    (rw c.in-Err.is (c.number.ensures ∙ refused_result c.in-Err.r), rw c.in-Err.is)
