-- What the functions answer.
use Rattle.std.specs.Prelude.{ℕ, ◌+◌, ◌≤◌, ◌<◌, ◌≡◌, ◌⊎◌, List, length, get_or, Result}
use Rattle.spec.specs.Repair.{lines_of, left, RepairOutcome}
use Rattle.link_list.specs.Listing.{link_starts, Reasons}
use Rattle.repair.specs.declared.LineReason.{LineReason}
use Rattle.spec.specs.declared.Refusal.{Refusal}
use Rattle.spec.specs.declared.Amounts.{Amounts}

-- The links of a database of at most 1,048,576 bytes: where their lines start, and beside each place why the link is removed, or 0.
pub record Judged (db ats reasons : List ℕ) : Type 0 where
  pub small : length db ≤ 1048576
  pub starts : ats ≡ link_starts (left (lines_of db))
  pub beside : length reasons ≡ length ats
  pub right : Reasons db ats reasons

-- `line_reason`: the line at a place has the link k, or none.
abbrev pub ReasonFound : List ℕ → List ℕ → ℕ → ℕ → LineReason → Type 0
ReasonFound ats reasons k at r =
    ((k < length ats) × (get_or ats k 0 ≡ at) × (r.reason ≡ get_or reasons k 0) × (r.next ≡ k + 1))
    ⊎ ((k < length ats → get_or ats k 0 ≡ at → ⊥) × (r.reason ≡ 0) × (r.next ≡ k))

-- An answer, and both buffers afterwards, as an outcome has them.
abbrev pub Delivers : RepairOutcome → Result Amounts Refusal → List ℕ → List ℕ → Type 0
Delivers o r text records = (r ≡ o.answer) × (text ≡ o.text) × (records ≡ o.records)
