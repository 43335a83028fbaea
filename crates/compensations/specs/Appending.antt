-- What the functions that append to a buffer answer, by the cases of their answers.
use Rattle.std.specs.Prelude.{ℕ, ◌+◌, ◌<◌, ◌≤◌, ◌≡◌, List, length, Option, Some, None, Result, Ok, Err}
use Rattle.std.proofs.lemmas.List.Edits.{sets}
use Rattle.spec.specs.Position.{Body, body, fault}
use Rattle.spec.specs.declared.Refusal.{Refusal}

-- Bytes for a place of a buffer: they are written, and end within the capacity; or they would pass it.
abbrev pub BytesAppended : List ℕ → ℕ → List ℕ → ℕ → Option ℕ → List ℕ → Type 0
BytesAppended l capacity out at (Some end) o = (end ≡ at + length l) × (end ≤ capacity) × (o ≡ sets out at l)
BytesAppended l capacity out at None o = capacity < at + length l

-- A body with its compensations for the start of a buffer: the same, or the body has a fault.
abbrev pub BodyFilledIn : Body → ℕ → List ℕ → Result (Option ℕ) Refusal → List ℕ → Type 0
BodyFilledIn t capacity out (Ok (Some end)) o = (l : List ℕ) × (t ≡ body l) × (end ≡ length l) × (end ≤ capacity) × (o ≡ sets out 0 l)
BodyFilledIn t capacity out (Ok None) o = (l : List ℕ) × (t ≡ body l) × (capacity < length l)
BodyFilledIn t capacity out (Err r) o = t ≡ fault r
