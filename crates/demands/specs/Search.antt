-- Ask 6: the search that counts, beside Show; and the names that it counts, in the request's words.
use Rattle.std.specs.Prelude.{ℕ, ◌+◌, ◌≤◌, ◌≡◌, Bool, true, false, ◌⊎◌, List, [], ◌∷◌, ◌++◌, eqb, length, Result, Ok, Err}
use Rattle.spec.specs.Choice.{pick}
use Rattle.spec.specs.Lists.{among}
use Rattle.spec.specs.Refusals.{refusal_number}
use Rattle.spec.specs.Files.{Files}
use Rattle.spec.specs.Questions.{show_answer}
use Rattle.spec.specs.Search.{compared, search_answer}
use Rattle.spec.specs.declared.Refusal.TheVariants.{UnknownName}
use Rattle.spec.specs.declared.Refusal.{Refusal}
use Rattle.spec.specs.declared.Part.{Part}
use Rattle.spec.specs.declared.Tally.{Tally}

-- What Show answers by whether a name is found.
abbrev pub ShownIf : Result Part Refusal → Bool → Type 0
ShownIf shown true = (part : Part) × (shown ≡ Ok part)
ShownIf shown false = shown ≡ Err UnknownName

-- What Show answers where the search that counts answers so. "It refuses only 16, 1 and 3", as Show does; where Show refuses with 4, a name
-- is missing.
abbrev pub ShownWhere : Result Part Refusal → Result Tally Refusal → Type 0
ShownWhere shown (Ok t) = ShownIf shown t.found
ShownWhere shown (Err r) = (shown ≡ Err r) × ((refusal_number r ≡ 16) ⊎ ((refusal_number r ≡ 1) ⊎ (refusal_number r ≡ 3)))

-- How many of the names have this length.
unfoldable pub of_length : ℕ → List (List ℕ) → ℕ
of_length n [] = 0
of_length n (m ∷ ms) = pick (eqb (length m) n) 1 0 + of_length n ms

-- THE STATEMENT. Its proof is proofs/Search.
pub record SearchCounts : Type 0 where
  pub agrees : (db : Files) (name : List ℕ) → ShownWhere (show_answer db name) (search_answer db name)
  -- "exactly those of its length ..., up to and with the first equal one"
  pub up-to_equal : (name : List ℕ) (before after : List (List ℕ)) → among name before ≡ false
      → compared name (before ++ name ∷ after) ≡ of_length (length name) (before ++ name ∷ [])
  -- "or all if none is"
  pub all_others : (name : List ℕ) (names : List (List ℕ)) → among name names ≡ false → compared name names ≡ of_length (length name) names
  -- a count is at most the bytes and the files
  pub bounded : (db : Files) (name : List ℕ) (t : Tally) → search_answer db name ≡ Ok t → t.compared ≤ length db.bytes + length db.ends
