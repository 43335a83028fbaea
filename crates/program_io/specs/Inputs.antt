-- What reads may answer.
use Rattle.std.specs.Prelude.{ℕ, ◌≤◌, ◌≡◌, List, Result, IfOk, length, take}
use Rattle.std.specs.declared.io.Error.{Error}
use Rattle.io.specs.Counts.{IsPrefixLen}
use Rattle.spec.specs.Lists.{upto}

-- So many bytes of a buffer.
abbrev pub Within : Result ℕ Error → List ℕ → Type 0
Within r buffer = IfOk r (λ n. IsPrefixLen n buffer)

-- No fewer than before.
abbrev pub MoreRead : ℕ → Result ℕ Error → List ℕ → Type 0
MoreRead used r buffer = IfOk r (λ n. (used ≤ n) × (n ≤ length buffer))

-- Of the m bytes that were read, those before the first newline (10); all of them, if there is none.
abbrev pub LineRead : Result ℕ Error → List ℕ → Type 0
LineRead r buffer = IfOk r (λ n. IsPrefixLen n buffer × ((m : ℕ) × (m ≤ length buffer) × (n ≡ length (upto 10 (take m buffer)))))
