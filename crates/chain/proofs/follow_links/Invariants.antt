-- `chain::follow_links` meets its contract: the walk is what is still to be followed from the lines passed, with the size that is left.
use Rattle.std.specs.Prelude.{Option}
use Prim.Native.Nat.{ℕ, ◌-◌, ◌≤◌}
use mathlib.Core.Path.{◌≡◌}
use mathlib.Core.List.{List}
use lib.ListN.{length}
use Rattle.spec.specs.Files.{files, contents}
use Rattle.spec.specs.declared.Refusal.{Refusal}
use Rattle.spec.specs.Chain.{follow, walk}
use Rattle.chain.specs.Answers.{lines_of}
use Rattle.chain.specs.declared.Chain.{Chain}
use Rattle.chain.proofs.follow_links.Given as goal
use Rattle.spec.specs.declared.Location.{Location}

pub record Going (db : List (List ℕ)) (name : List ℕ) (c : Chain) (left : ℕ) (missing : Refusal) (found : Option Location) : Type 0 where
  pub count : c.count ≤ 32
  pub size : left ≤ 16384
  pub array : length c.lines ≡ 32
  pub walked : walk db name ≡ follow db (32 - c.count) (lines_of c) (16384 - left) missing found

abbrev pub invariant-loop-found : goal.invariant-loop-found
invariant-loop-found l = (length l.ends ≤ 8) × Going (contents (files l.db l.ends)) l.name l.c l.left l.missing l.found

abbrev pub decreases-loop-found : goal.decreases-loop-found
decreases-loop-found l = 32 - l.c.count
