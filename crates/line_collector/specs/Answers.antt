-- What the functions answer.
use Rattle.std.specs.Prelude.{ℕ, ◌≤◌, ◌<◌, ◌≡◌, List, get_or}
use Rattle.spec.specs.Finder.{Collecting, Feeding, feeding}
use Rattle.spec.specs.declared.finder.LineState.{LineState}
use Rattle.line_collector.specs.declared.Place.{Place}

-- The present line and the text.
abbrev pub at : LineState → List ℕ → Collecting
at l t = record { line = l; text = t }

abbrev pub placed : Place → List ℕ → Feeding
placed p t = feeding p.held (at p.line t)

-- A line in another stage, with no byte of a name.
abbrev pub in_stage : LineState → ℕ → LineState
in_stage l stage = record { stage = stage; matched = 0; count = l.count }

-- No newline stands from a place up to another.
abbrev pub NoNewline : List ℕ → ℕ → ℕ → Type 0
NoNewline s from to = (k : ℕ) → from ≤ k → k < to → get_or s k 0 ≡ 10 → ⊥

-- The names of a line are being read, and the present one differs from the asked one.
abbrev pub OtherName : LineState → Type 0
OtherName l = (l.stage ≡ 1) × (l.matched ≡ 65) × (0 < l.count)
