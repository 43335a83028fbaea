-- "Where the answer is present, that first field is the winning field of the pair of name and kind, and the pair is live; no other field
-- wins, and a cancel never does": the winning fields are those that the lookup comes to.
use Rattle.std.specs.Prelude.{◌≡◌, Bool, false, not, List, [], ◌∷◌, ◌++◌, eqb}
use Rattle.spec.specs.Choice.{pick, both}
use Rattle.spec.specs.Fields.{Reading, malformed, ignored, link, capability, reading, content_kind}
use Rattle.spec.specs.Chain.{Field}
use Rattle.spec.specs.Lookup.{is_live, winning}

-- Whether the pair of a field is live with the field, and is not without it: no field before it answers, and it does.
abbrev pub makes_live : Reading → List Field → Field → Bool
makes_live malformed before f = false
makes_live ignored before f = false
makes_live (link n) before f = false
makes_live (capability a b c) before f =
    let id = a ∷ b ∷ [] in
    let k = content_kind c in
    both (not (eqb 0 k)) (both (not (is_live id k before)) (is_live id k (before ++ f ∷ [])))

-- THE STATEMENT: field by field, those that make their pair live win, and no others, whatever stands behind them. Its proof is
-- proofs/Winning.
pub record WinningFields : Type 0 where
  pub none : winning [] ≡ []
  pub next : (before : List Field) (f : Field) → winning (before ++ f ∷ []) ≡ winning before ++ pick (makes_live (reading f.text) before f) (f ∷ []) []
  pub kept : (before after : List Field) → (rest : List Field) × (winning (before ++ after) ≡ winning before ++ rest)
