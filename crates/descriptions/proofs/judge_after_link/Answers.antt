-- `descriptions::judge_after_link` meets its contract: the fields after the link decide.
use native.Mathlib.Omega.{arith}
use Rattle.descriptions.specs.Judgement.{linked}
use Rattle.descriptions.proofs.judge_after_link.Goals as goal

pub overflow_add-result : goal.overflow_add-result
overflow_add-result c =
    let e = c.in_ok-rest.was in
    let p = rw e at c.ignored_size.ensures in
    omega (arith, p.1)

pub returns-in_err-rest : goal.returns-in_err-rest
unfolding linked
returns-in_err-rest c =
    let e = c.in_err-rest.was in
    let p = rw e at c.ignored_size.ensures in
    rw (c.from_residual.ensures, p)

pub returns : goal.returns
unfolding linked
returns c =
    let e = c.in_ok-rest.was in
    let p = rw e at c.ignored_size.ensures in
    rw (p.0, p.1)
