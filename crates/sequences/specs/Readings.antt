-- What the reading of a sequence answers.
use Rattle.std.specs.Prelude.{ℕ, ◌<◌, ◌≤◌, ◌≡◌, List, length, drop, Option, Some, None}
use Rattle.spec.specs.Sequences.{Narrow, perform}
use Rattle.spec.specs.Position.{refused, onward, plain_of, percent_of}
use Rattle.spec.specs.declared.Refusal.TheVariants.{UnknownSequence}
use Rattle.spec.specs.declared.position.Raising.{Raising}
use Rattle.spec.specs.declared.position.Sequence.{Sequence}
use Rattle.spec.specs.declared.position.Parameters.{Parameters}
use Rattle.spec.specs.declared.position.Pending.TheVariants.{Letter}

-- The command s from a place on, where a sequence's letter is due. A sequence: it is done there, and then what follows it. None: 10.
abbrev pub SequenceRead : List ℕ → ℕ → Option (Sequence × ℕ) → Type 0
SequenceRead s from (Some (q, next)) =
    (from < next)
    × (next ≤ length s)
    × Narrow q
    × ((g : Raising) (ps : Parameters) → percent_of (drop from s) Letter g ps ≡ onward (perform g q ps) (λ qs. plain_of (drop next s) g qs))
SequenceRead s from None = (g : Raising) (ps : Parameters) → percent_of (drop from s) Letter g ps ≡ refused UnknownSequence
