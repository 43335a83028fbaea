-- What a C function returns and stores for the report of an answer: 0, and the values are stored; 255 if there are no values (absent); for a
-- refusal its number. Where there are no values, what was stored stays.
use Rattle.std.specs.Prelude.{ℕ, ◌-◌, ◌≤◌, Bool, not, List, [], ◌∷◌, eqb, Result, Ok, Err}
use Rattle.spec.specs.Choice.{pick}
use Rattle.spec.specs.Answers.{Report}
use Rattle.spec.specs.declared.Refusal.{Refusal}
use Rattle.spec.specs.declared.Part.{Part}

abbrev pub accepted_result : List ℕ → ℕ
accepted_result [] = 255
accepted_result (v ∷ vs) = 0

unfoldable pub result_of : Report → ℕ
result_of p = pick (eqb p.refusal 0) (accepted_result p.values) p.refusal

abbrev pub first_or : List ℕ → ℕ → ℕ
first_or [] old = old
first_or (v ∷ vs) old = v

abbrev pub length_or : List ℕ → ℕ → ℕ
length_or [] old = old
length_or (from ∷ []) old = old
length_or (from ∷ to ∷ vs) old = to - from

abbrev pub second_or : List ℕ → ℕ → ℕ
second_or [] old = old
second_or (v ∷ []) old = old
second_or (v ∷ w ∷ vs) old = w

abbrev pub third_or : List ℕ → ℕ → ℕ
third_or [] old = old
third_or (v ∷ []) old = old
third_or (v ∷ w ∷ []) old = old
third_or (v ∷ w ∷ x ∷ vs) old = x

-- The value of a question, a count, the start of a shown part, or a delay.
unfoldable pub stored_value : Report → ℕ → ℕ
stored_value p old = first_or p.values old

-- The length of a shown part.
unfoldable pub stored_length : Report → ℕ → ℕ
stored_length p old = length_or p.values old

-- The number of a repair's records, of the names that a search compared, or a star.
unfoldable pub stored_second : Report → ℕ → ℕ
stored_second p old = second_or p.values old

-- The count of the finished bytes, behind the delay and the star.
unfoldable pub stored_third : Report → ℕ → ℕ
stored_third p old = third_or p.values old

-- A star is stored as 1, and any number but 0 is taken for one.
abbrev pub has_star : ℕ → Bool
has_star n = not (eqb n 0)

-- A part does not end before it starts.
abbrev pub Ordered : Result Part Refusal → Type 0
Ordered (Ok p) = p.from ≤ p.to
Ordered (Err r) = Unit {0}
