-- What the functions answer.
use Rattle.std.specs.Prelude.{ℕ, ◌-◌, ◌≤◌, ◌≡◌, List, ◌∷◌, ◌++◌, length, take, drop}
use Rattle.std.proofs.lemmas.List.Edits.{sets}
use Rattle.spec.specs.Fields.{names_of}
use Rattle.spec.specs.Repair.{own_bytes, parts_of, kept_bytes, closed, Mended, flattened}
use Rattle.spec.specs.declared.Amounts.{Amounts}

-- `after_line`: the line's own bytes stand up to the place that it answers.
abbrev pub OwnEnd : List ℕ → ℕ → ℕ → Type 0
OwnEnd db at r = (at ≤ r) × (r ≤ length db) × (take (r - at) (drop at db) ≡ own_bytes db at)

-- `put_changed`: a line from which something is removed.
abbrev pub changed_line : List ℕ → ℕ → List ℕ
changed_line l reason = closed (names_of l ++ 58 ∷ kept_bytes (parts_of reason l))

-- `mend_line`: the bytes of the mended database for a line, and its records, are counted, and stored from places on.
abbrev pub LineMended : Mended → List ℕ → ℕ → List ℕ → List ℕ → ℕ → List ℕ → Amounts → Type 0
LineMended m text to text' records from records' r =
    (r.bytes ≡ length m.text) × (r.records ≡ length m.records) × (text' ≡ sets text to m.text)
    × (records' ≡ sets records from (flattened m.records))
