-- A line split into its fields, by its next colon.
-- Assumes nothing.
use Prim.Native.Nat.{ℕ}
use mathlib.Core.Path.{◌≡◌, refl, ◌∙◌, ap}
use mathlib.Core.Bool.{Bool, true, false}
use mathlib.Core.List.{List, [], ◌∷◌}
use native.Mathlib.Omega.{arith}
use lib.Dec.{eqb}
use lib.ListN.{length}
use Rattle.spec.specs.Choice.{pick, either}
use Rattle.spec.specs.Lists.{upto, holds, past}
use Rattle.spec.specs.Fields.{split, fields_of}
use Rattle.laws.proofs.FieldSteps.{split_first, split_nil}
use Rattle.laws.proofs.Tests.{clash}

pub piece_then_lem : (l : List ℕ) → holds 58 l ≡ true → split l ≡ upto 58 l ∷ split (past 58 l)
unfolding holds
piece_then_lem [] h = clash (cc)
piece_then_lem (b ∷ l) h = split_first b l

pub past-none : (l : List ℕ) → holds 58 l ≡ false → past 58 l ≡ []
unfolding holds past
past-none [] h = refl
past-none (b ∷ l) h = go (eqb b 58) h (past-none l)
  where
    go : (x : Bool) → either x (holds 58 l) ≡ false → (holds 58 l ≡ false → past 58 l ≡ []) → pick x l (past 58 l) ≡ []
    go true q ih = clash q
    go false q ih = ih q

pub piece_last : (l : List ℕ) → holds 58 l ≡ false → (length (upto 58 l) ≡ 0 → ⊥) → split l ≡ upto 58 l ∷ []
piece_last [] h n = absurd (n (unfold upto in refl))
piece_last (b ∷ l) h n =
    split_first b l ∙ ap (λ (r : List ℕ). upto 58 (b ∷ l) ∷ split r) (past-none (b ∷ l) h)
    ∙ ap (λ (fs : List (List ℕ)). upto 58 (b ∷ l) ∷ fs) split_nil

pub piece_none : (l : List ℕ) → holds 58 l ≡ false → length (upto 58 l) ≡ 0 → l ≡ []
unfolding holds upto
piece_none [] h e = refl
piece_none (b ∷ l) h e = go (eqb b 58) h e
  where
    go : (x : Bool) → either x (holds 58 l) ≡ false → length (pick x [] (b ∷ upto 58 l)) ≡ 0 → b ∷ l ≡ []
    go true q z = clash q
    go false q z = absurd (omega arith)

-- A line that has no colon has no fields.
pub no_fields : (l : List ℕ) → holds 58 l ≡ false → fields_of l ≡ []
unfolding fields_of
no_fields l e = rw (past-none l e, split_nil)

pub fields-none : (l : List ℕ) → holds 58 l ≡ false → length (upto 58 l) ≡ 0 → split l ≡ []
fields-none l h e = ap split (piece_none l h e) ∙ split_nil
