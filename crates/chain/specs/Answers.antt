-- What the walk answers, by the cases of its answer.
use Rattle.std.specs.Prelude.{ℕ, ◌≤◌, ◌<◌, ◌≡◌, List, take, Result, Ok, Err}
use Rattle.spec.specs.Chain.{broken, chain, walk}
use Rattle.spec.specs.declared.Location.{Location}
use Rattle.chain.specs.declared.Chain.{Chain}
use Rattle.spec.specs.declared.Refusal.{Refusal}

-- The lines of a chain.
abbrev pub lines_of : Chain → List Location
lines_of c = take c.count c.lines

-- `follow_links`: the walk is a chain of these lines, or it is refused.
abbrev pub Walked : List (List ℕ) → List ℕ → Result Chain Refusal → Type 0
Walked db name (Ok c) = (walk db name ≡ chain (lines_of c)) × (0 < c.count) × (c.count ≤ 32)
Walked db name (Err r) = walk db name ≡ broken r
