-- `listing::write_fields` meets its contract: the fields before `at` are passed, and those from there on are left.
use Prim.Native.Nat.{ℕ, ◌-◌, ◌≤◌}
use mathlib.Core.Path.{◌≡◌}
use mathlib.Core.List.{List, ◌++◌}
use lib.ListN.{length}
use Rattle.spec.specs.Lines.{line_at}
use Rattle.spec.specs.Fields.{split}
use Rattle.spec.specs.Chain.{Field, placed}
use Rattle.listing.specs.Answers.{Passes}
use Rattle.listing.specs.declared.Origin.{Origin}
use Rattle.listing.specs.declared.Form.{Form}
use Rattle.listing.proofs.write_fields.Given as goal

-- the fields of a part
abbrev pub fields : Origin → List ℕ → ℕ → List Field
fields from s at = placed from.place from.file (split (line_at s at))

pub record On (s : List ℕ) (from : Origin) (form : Form) (seen₀ out₀ : List ℕ) (to : ℕ) (seen out : List ℕ) (end at : ℕ) : Type 0 where
  pub done : List Field
  pub all : fields from s 0 ≡ done ++ fields from s at
  pub passed : Passes form done seen₀ out₀ to seen out end
  pub buffer : length out ≡ length out₀
  pub within : at ≤ length s

abbrev pub invariant-loop-read : goal.invariant-loop-read
invariant-loop-read l = On l.s l.from l.form l.initial.seen l.initial.out l.to l.seen l.out l.end l.at

abbrev pub decreases-loop-read : goal.decreases-loop-read
decreases-loop-read l = length l.s - l.at
