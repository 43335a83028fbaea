-- `files::find_from` meets its contract: the name is not in the files passed.
use mathlib.Core.Path.{◌≡◌}
use Rattle.spec.specs.Files.{files, contents, find_from}
use Rattle.files.proofs.find_from.Given as goal

abbrev pub invariant-loop-k : goal.invariant-loop-k
invariant-loop-k l = find_from (contents (files l.db l.ends)) l.from l.name ≡ find_from (contents (files l.db l.ends)) l.k l.name
