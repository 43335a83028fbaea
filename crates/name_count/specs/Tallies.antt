-- What is counted of some names, one function after the other.
use Rattle.std.specs.Prelude.{ℕ, ◌+◌, ◌<◌, ◌^◌, ◌≡◌, List}
use Rattle.spec.specs.declared.Tally.{Tally}
use Rattle.spec.specs.Lists.{among}
use Rattle.spec.specs.Search.{compared}

-- The count of these names and of those before fits a number.
abbrev pub Fits : List ℕ → List (List ℕ) → ℕ → Type 0
Fits name names before = before + compared name names < 2 ^ 64

-- Whether the name is among these names, and the count of them and of those before.
abbrev pub Tallied : List ℕ → List (List ℕ) → ℕ → Tally → Type 0
Tallied name names before t = (t.found ≡ among name names) × (t.compared ≡ before + compared name names)
