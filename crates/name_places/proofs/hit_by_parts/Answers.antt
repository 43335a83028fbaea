-- `name_places::hit_by_parts` meets its contract: the places before the loop's are passed over.
use native.Mathlib.Omega.{arith}
use Rattle.std.proofs.lemmas.Grind.{common_steps}
use Rattle.name_places.proofs.Places.{passed-join}
use Rattle.name_places.proofs.hit_by_parts.Goals as goal

pub returns-then-found-i-lt-PART-clause-passed : goal.returns-then-found-i-lt-PART-clause-passed
returns-then-found-i-lt-PART-clause-passed c = λ h. grind (arith, common_steps, passed-join)

pub loop-i-preserved : goal.loop-i-preserved
loop-i-preserved c = grind (arith, common_steps, passed-join)

pub returns-clause-passed : goal.returns-clause-passed
returns-clause-passed c = λ h. passed-join c.loop-i.invariant c.first_hit.ensures.passed
