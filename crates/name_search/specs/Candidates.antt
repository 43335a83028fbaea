-- Lines that may have the asked name, and what the functions of the search answer of them.
use Rattle.std.specs.Prelude.{ℕ, ◌+◌, ◌≤◌, ◌≡◌, List, length, get_or, Option, Some, None}
use Rattle.spec.specs.Lines.{text_at, later_lines, lines_from, find}

-- At the place e stands a newline that ends a line.
pub record Closes (s : List ℕ) (e : ℕ) : Type 0 where
  pub newline : get_or s e 0 ≡ 10
  pub alone : (k : ℕ) → k + 1 ≡ e → get_or s k 0 ≡ 92 → ⊥

-- The place r, at most p, is the start of a line behind the place e.
pub record LineOf (s : List ℕ) (e p r : ℕ) : Type 0 where
  pub upto : r ≤ p
  pub starts : (f : ℕ) × (r ≡ f + 1) × (e ≤ f) × Closes s f

-- No line that starts behind the place e and before the line at r has the name n.
pub record Candidate (s n : List ℕ) (e r : ℕ) : Type 0 where
  pub inside : r ≤ length s
  pub starts : (f : ℕ) × (r ≡ f + 1) × (e ≤ f) × Closes s f
  pub passed : find n (later_lines (text_at s e)) ≡ find n (lines_from r (text_at s r))

abbrev pub NextCandidate : List ℕ → List ℕ → ℕ → Option ℕ → Type 0
NextCandidate s n e (Some r) = Candidate s n e r
NextCandidate s n e None = find n (later_lines (text_at s e)) ≡ None
