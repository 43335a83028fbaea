-- What `resolve` answers, by the cases of its answer.
use Rattle.std.specs.Prelude.{ℕ, ◌≤◌, ◌<◌, ◌≡◌, List, length, Result, Ok, Err}
use Rattle.spec.specs.Files.{Files, contents}
use Rattle.spec.specs.Chain.{Terminal, refused, terminal, first_names, joined_fields}
use Rattle.spec.specs.Questions.{terminal_of}
use Rattle.chain.specs.Answers.{lines_of}
use Rattle.chain.specs.declared.Chain.{Chain}
use Rattle.spec.specs.declared.Refusal.{Refusal}

-- The terminal that a chain is.
abbrev pub terminal_at : List (List ℕ) → Chain → Terminal
terminal_at fs c = terminal (first_names fs (lines_of c)) (joined_fields fs 0 (lines_of c))

-- `resolve`: the terminal of a name by the lines of its chain, or the refusal.
abbrev pub Resolved : Files → List ℕ → Result Chain Refusal → Type 0
Resolved db name (Ok c) = (terminal_of db name ≡ terminal_at (contents db) c) × (0 < c.count) × (c.count ≤ 32) × (length db.bytes ≤ 1048576)
Resolved db name (Err r) = terminal_of db name ≡ refused r
