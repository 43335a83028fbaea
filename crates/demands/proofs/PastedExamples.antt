-- The examples of Ask 13, by computation.
-- Assumes nothing.
use Prim.Native.Nat.{ℕ}
use mathlib.Core.Path.{◌≡◌, refl}
use mathlib.Core.List.{[], ◌∷◌}
use native.Mathlib.Omega.{arith}
use Rattle.spec.specs.Calls.{ascii}
use Rattle.spec.specs.Files.{contents}
use Rattle.spec.specs.Chain.{joined_fields}
use Rattle.spec.proofs.Computing.{computing}
use Rattle.demands.specs.Demand3.{one_line}
use Rattle.demands.specs.Pasting.{pasted, edited_line, replaced, moved_ends, edited, flat_fields}
use Rattle.demands.specs.PastedExamples.{Edited, three_files, Possible, Misled}

pub edited_examples : Edited
unfolding computing one_line pasted edited_line replaced moved_ends edited flat_fields
edited_examples = refl

pub premises_possible : Possible
unfolding computing one_line pasted edited_line replaced moved_ends edited flat_fields
premises_possible =
    record {
      names = ascii "n";
      fields = joined_fields (contents three_files) 0 (record { file = 0; at = 3 } ∷ record { file = 2; at = 0 } ∷ record { file = 2; at = 17 } ∷ []);
      accepted = refl;
      before = [];
      after = record { file = 2; at = 0 } ∷ record { file = 2; at = 17 } ∷ [];
      in_chain = refl;
      linked = ascii "m";
      has_link = refl;
      same_line = refl;
      room = λ e. let z : ◌≡◌ {A = ℕ} 0 1 = cc in omega arith;
      limit = refl;
    }

pub premise_needed : Misled
unfolding computing one_line pasted edited_line replaced moved_ends edited flat_fields
premise_needed = (refl, refl)
