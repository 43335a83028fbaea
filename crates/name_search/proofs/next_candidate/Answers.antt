-- `name_search::next_candidate` meets its contract: the places up to the hit are settled.
use lib.ListN.{length}
use mathlib.Core.Path.{◌≡◌}
use native.Mathlib.Omega.{arith}
use Rattle.std.proofs.lemmas.Grind.{common_steps}
use Rattle.name_search.proofs.LineEnds.{none-behind}
use Rattle.name_search.proofs.Passing.{next-line, passed-line, passed-all}
use Rattle.name_search.proofs.next_candidate.Goals as goal

pub returns-then-end-len : goal.returns-then-end-len
returns-then-end-len c =
    let a = c.args in
    let z : a.end ≡ length a.s.now = c.if-end-len.true in
    rw z (none-behind a.s.now a.name.now)

pub returns-then-end-lt2 : goal.returns-then-end-lt2
returns-then-end-lt2 c = next-line _ _ _ (omega arith) (c.requires.closes (omega arith))

pub returns-then-len-at-gt2 : goal.returns-then-len-at-gt2
returns-then-len-at-gt2 c =
    let p = c.next_hit-at.ensures.passed (grind (arith, common_steps)) (omega arith) in
    passed-line (omega arith) (c.requires.closes (omega arith)) p.settled _ (omega arith) c.line_of.ensures

pub returns : goal.returns
returns c =
    let p = c.next_hit-at.ensures.passed (grind (arith, common_steps)) (omega arith) in
    passed-all (omega arith) (c.requires.closes (omega arith)) p.settled (omega arith) (omega (arith, p.inside))
