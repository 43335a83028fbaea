-- `name_count::count_files` meets its contract: the names of the files passed are other names, and counted.
use Rattle.spec.specs.Files.{files, contents}
use Rattle.spec.specs.Search.{all_names}
use Rattle.name_count.proofs.Counting.{Left, names_onward}
use Rattle.name_count.proofs.count_files.Given as goal

abbrev pub invariant-loop-k : goal.invariant-loop-k
invariant-loop-k l =
    let fs = contents (files l.db l.ends) in
    Left l.name (all_names fs) 0 (names_onward fs l.k) l.n
