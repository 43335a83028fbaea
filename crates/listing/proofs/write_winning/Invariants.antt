-- `listing::write_winning` meets its contract: the fields of the lines before the i-th are passed, and those from there on are left.
use Prim.Native.Nat.{ℕ, ◌+◌, ◌*◌, ◌≤◌}
use mathlib.Core.Path.{◌≡◌}
use mathlib.Core.List.{List, ◌++◌}
use lib.ListN.{length, take, replicate}
use Rattle.spec.specs.Files.{files, contents}
use Rattle.spec.specs.Chain.{Field, joined_fields}
use Rattle.spec.specs.declared.Location.{Location}
use Rattle.chain.proofs.JoinedFields.{fields_from}
use Rattle.listing.specs.Answers.{Passes, most_for_line}
use Rattle.listing.specs.declared.Form.{Form}
use Rattle.listing.proofs.write_winning.Given as goal

pub record Going (db : List (List ℕ)) (form : Form) (out₀ : List ℕ) (to : ℕ) (lines : List Location) (n : ℕ) (out seen : List ℕ) (end i : ℕ) : Type 0 where
  pub done : List Field
  pub all : joined_fields db 0 (take n lines) ≡ done ++ fields_from db lines n i
  pub passed : Passes form done (replicate 8836 0) out₀ to seen out end
  pub bound : end ≤ to + i * most_for_line
  pub buffer : length out ≡ length out₀

abbrev pub invariant-loop-i : goal.invariant-loop-i
invariant-loop-i l = Going (contents (files l.db l.ends)) l.form l.initial.out l.to l.fn.c.lines l.fn.c.count l.out l.seen l.end l.i
