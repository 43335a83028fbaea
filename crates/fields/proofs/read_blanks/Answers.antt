-- `fields::read_blanks` meets its contract: what was passed is blank, so the rest decides.
use Rattle.fields.proofs.Names.{blanks_on, blanks_not, blanks_all}
use Rattle.fields.proofs.read_blanks.Goals as goal

pub loop-b-preserved : goal.loop-b-preserved
loop-b-preserved c =
    let p = c.in-Some.ensures in
    blanks_on _ _ _ _ c.loop-b.invariant _ _ p.0 p.1 p.3 c.in-9.is

pub returns-in_default : goal.returns-in_default
returns-in_default c =
    let p = c.in-Some.ensures in
    let inv = c.loop-b.invariant in
    (rw (blanks_not _ _ _ _ inv _ _ p.0 c.in_default.in_default-own.rest.1), inv.passed)

pub returns-in-None : goal.returns-in-None
returns-in-None c =
    let p = c.in-None.ensures in
    let inv = c.loop-b.invariant in
    (rw (blanks_all _ _ _ _ inv p), inv.passed)
