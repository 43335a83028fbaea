-- `repair::repair` meets its contract.
use mathlib.Core.Path.{refl, ap}
use Rattle.spec.specs.Answers.{repaired_report}
use Rattle.repair.proofs.Delivering.{too_large_lem}
use Rattle.repair.proofs.repair.Goals as goal

pub returns-then-db-gt-MOST_BYTES : goal.returns-then-db-gt-MOST_BYTES
returns-then-db-gt-MOST_BYTES c = rw (too_large_lem _ _ _ c.if-db-gt-MOST_BYTES.true) (refl, refl, refl, refl)

pub returns : goal.returns
returns c = let d = c.repair_small.ensures in (d.0, ap repaired_report d.0, d.1, d.2)
