-- `lookup::look_up` meets its contract: what is looked up in the chain is what is looked up from the index on.
use mathlib.Core.Path.{◌≡◌}
use mathlib.Core.List.{[], ◌∷◌}
use lib.ListN.{length}
use Rattle.spec.specs.Files.{files, contents}
use Rattle.spec.specs.Fields.{kind_number}
use Rattle.spec.specs.Chain.{joined_fields}
use Rattle.spec.specs.Lookup.{lookup}
use Rattle.chain.specs.Answers.{lines_of}
use Rattle.chain.proofs.JoinedFields.{fields_from}
use Rattle.lookup.proofs.look_up.Given as goal

abbrev pub invariant-loop-p : goal.invariant-loop-p
invariant-loop-p l =
    let fs = contents (files l.db l.ends) in
    let id = l.a ∷ l.b ∷ [] in
    let k = kind_number l.kind in
    (length l.p-items ≡ l.n)
    × (lookup id k (joined_fields fs 0 (lines_of l.fn.c)) ≡ lookup id k (fields_from fs l.p-items l.n l.p-index))
