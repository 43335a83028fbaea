-- `lines::next_name` meets its contract: what is passed belongs to the first name, so the later names are the same.
use native.Mathlib.Omega.{arith}
use Rattle.laws.proofs.TextSteps as Laws
use Rattle.spec.specs.Lines.{line_text, later_names}
use Rattle.spec.specs.Lists.{upto, later_pieces}
use Rattle.lines.proofs.next_name.Goals as goal

pub returns-in-10 : goal.returns-in-10
returns-in-10 c =
    let p = c.in-Some.ensures in
    rw (c.loop-b.invariant.1, p.0) (Laws.names-end _ _ _ c.in-10.is)

pub returns-in-124 : goal.returns-in-124
returns-in-124 c =
    let p = c.in-Some.ensures in
    (rw (c.loop-b.invariant.1, p.0) (Laws.names-cut _ _ _ c.in-124.is), omega arith, p.2)

pub returns-in-None : goal.returns-in-None
unfolding later_names upto later_pieces line_text
returns-in-None c =
    let p = c.in-None.ensures in
    rw (c.loop-b.invariant.1, p)
