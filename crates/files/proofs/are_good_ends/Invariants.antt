-- `files::are_good_ends` meets its contract: what is left to be tested are the ends from the index on.
use mathlib.Core.Path.{◌≡◌}
use Rattle.spec.specs.Files.{files, good_ends}
use Rattle.files.proofs.Parts.{rising_from}
use Rattle.files.proofs.are_good_ends.Given as goal

abbrev pub invariant-loop-end : goal.invariant-loop-end
invariant-loop-end l = good_ends (files l.db l.ends) ≡ rising_from l.db l.ends l.from l.end-index
