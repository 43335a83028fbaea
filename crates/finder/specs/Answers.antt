-- What the functions answer.
use Rattle.std.specs.Prelude.{ℕ, Result, Ok, Err}
use Rattle.spec.specs.declared.Refusal.{Refusal}
use Rattle.spec.specs.Refusals.{refusal_number}

-- The number of the refusal, or 0.
abbrev pub refused_number : Result (Unit {0}) Refusal → ℕ
refused_number (Ok x) = 0
refused_number (Err r) = refusal_number r
