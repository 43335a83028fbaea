-- What tclist writes for an answer of List.
use Rattle.std.specs.Prelude.{ℕ, ◌+◌, ◌*◌, ◌%◌, ◌≡◌, List, [], ◌∷◌, ◌++◌, eqb, length, take, Result, Ok, Err}
use Rattle.std.proofs.lemmas.List.Edits.{sets}
use Rattle.spec.specs.Choice.{pick}
use Rattle.spec.specs.Digits.{written}
use Rattle.spec.specs.Refusals.{refusal_number}
use Rattle.spec.specs.declared.Refusal.{Refusal}

-- After the last byte of a record stands a newline (10), after any other a space (32).
abbrev pub separator_of : ℕ → ℕ
separator_of k = pick (eqb (k % 12) 11) 10 32

-- The bytes of records in decimal, from the k-th on.
unfoldable pub decimals : ℕ → List ℕ → List ℕ
decimals k [] = []
decimals k (b ∷ l) = written 10 1 b ++ separator_of k ∷ decimals (k + 1) l

-- One record a line, or the refusal's number alone.
unfoldable pub answer_text : Result ℕ Refusal → List ℕ → List ℕ
answer_text (Ok n) records = decimals 0 (take (12 * n) records)
answer_text (Err r) records = written 10 1 (refusal_number r) ++ 10 ∷ []

-- A text that was put at the start of a buffer, and its length.
abbrev pub PutText : List ℕ → ℕ → List ℕ → List ℕ → Type 0
PutText text n out out' = (n ≡ length text) × (out' ≡ sets out 0 text)
