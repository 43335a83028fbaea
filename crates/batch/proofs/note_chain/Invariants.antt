-- `batch::note_chain` meets its contract: the lines that are left, taken into the tables, give the whole chain.
use Prim.Native.Nat.{ℕ}
use mathlib.Core.List.{List}
use lib.ListN.{take}
use Rattle.spec.specs.Files.{files, contents}
use Rattle.spec.specs.Chain.{joined_fields}
use Rattle.spec.specs.declared.Location.{Location}
use Rattle.chain.proofs.JoinedFields.{fields_from}
use Rattle.batch.specs.Answers.{Notes}
use Rattle.batch.specs.declared.Tables.{Tables}
use Rattle.batch.proofs.note_chain.Given as goal

abbrev pub Left : List (List ℕ) → List Location → ℕ → Tables → Tables → ℕ → Type 0
Left db lines n tables₀ tables i = (t : Tables) → Notes (fields_from db lines n i) tables t → Notes (joined_fields db 0 (take n lines)) tables₀ t

abbrev pub invariant-loop-p : goal.invariant-loop-p
invariant-loop-p l = Left (contents (files l.db l.ends)) l.fn.c.lines l.fn.c.count l.initial.tables l.tables l.p-index
