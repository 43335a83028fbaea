-- Lists of bytes: cut at a byte, and compared.
use Rattle.std.specs.Prelude.{ℕ, Bool, true, false, List, [], ◌∷◌, eqb}
use Rattle.spec.specs.Choice.{pick, both, either}

unfoldable pub holds : ℕ → List ℕ → Bool
holds c [] = false
holds c (b ∷ l) = either (eqb b c) (holds c l)

-- What stands before the first c: all of it, if there is none.
unfoldable pub upto : ℕ → List ℕ → List ℕ
upto c [] = []
upto c (b ∷ l) = pick (eqb b c) [] (b ∷ upto c l)

-- What stands after the first c.
unfoldable pub past : ℕ → List ℕ → List ℕ
past c [] = []
past c (b ∷ l) = pick (eqb b c) l (past c l)

-- A list split at each c, without the first piece.
unfoldable pub later_pieces : ℕ → List ℕ → List (List ℕ)
later_pieces c [] = []
later_pieces c (b ∷ l) = pick (eqb b c) (upto c l ∷ later_pieces c l) (later_pieces c l)

-- "Comparison is exact."
unfoldable pub same : List ℕ → List ℕ → Bool
same [] [] = true
same [] (y ∷ ys) = false
same (x ∷ xs) [] = false
same (x ∷ xs) (y ∷ ys) = both (eqb x y) (same xs ys)

unfoldable pub among : List ℕ → List (List ℕ) → Bool
among n [] = false
among n (m ∷ ms) = either (same n m) (among n ms)
