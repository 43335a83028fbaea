-- What the functions that fill a body into a buffer answer, by the cases of their answers.
use Rattle.std.specs.Prelude.{ℕ, ◌+◌, ◌-◌, ◌*◌, ◌<◌, ◌≤◌, ◌≡◌, List, length, drop, Result, Ok, Err}
use Rattle.std.proofs.lemmas.List.Edits.{sets}
use Rattle.spec.specs.Position.{Filled, filled, refused, then, plain_of, percent_of}
use Rattle.spec.specs.declared.Refusal.{Refusal}
use Rattle.spec.specs.declared.position.Raising.{Raising}
use Rattle.spec.specs.declared.position.Parameters.{Parameters}
use Rattle.spec.specs.declared.position.Parameters.TheVariants.{TwoUnused, OneUnused, AllUsed}
use Rattle.spec.specs.declared.position.Pending.TheVariants.{Letter}
use Rattle.places.specs.Places.{parameters_of}
use Rattle.position.specs.declared.BodyEnd.{BodyEnd}
use Rattle.position.specs.declared.Sequenced.{Sequenced}
use Rattle.position.specs.declared.Step.{Step}
use Rattle.position.specs.declared.Step.TheVariants.{Done, Paused}

-- How many parameters are unused.
abbrev pub unused : Parameters → ℕ
unused (TwoUnused p q) = 2
unused (OneUnused u p) = 1
unused (AllUsed u v) = 0

-- A place that no byte passes: each byte of the command writes at most one, and each parameter three more. Within a sequence its sign
-- was read before.
abbrev pub plain_bound : List ℕ → Parameters → ℕ → ℕ
plain_bound s ps at = at + length s + 3 * unused ps

abbrev pub percent_bound : List ℕ → Parameters → ℕ → ℕ
percent_bound s ps at = at + length s + 1 + 3 * unused ps

-- A sequence of s from a place on, where its letter is due, done into a buffer from a place on: l was written there, and what s gives
-- from there on is l and then what the bytes from `next` on give. A fault: s gives that.
abbrev pub SequenceDone : List ℕ → ℕ → Raising → Parameters → List ℕ → ℕ → Result Sequenced Refusal → List ℕ → Type 0
SequenceDone s from g ps out at (Ok d) o =
    (l : List ℕ)
    × (percent_of (drop from s) Letter g ps ≡ then l (plain_of (drop d.next s) g (parameters_of d.places)))
    × (d.end ≡ at + length l)
    × (o ≡ sets out at l)
    × (from < d.next)
    × (d.next ≤ length s)
    × (length l + 3 * unused (parameters_of d.places) ≤ 2 + 3 * unused ps)
SequenceDone s from g ps out at (Err r) o = percent_of (drop from s) Letter g ps ≡ refused r

-- Steps over s, which is to give t, into a buffer from a place on. Done: l was written there, and t is l. A fault: t is that. A pause: l
-- was written there, `left` bytes of s are to go, and t is l and then what those give.
abbrev pub StepTaken : List ℕ → Raising → Filled → List ℕ → ℕ → ℕ → Result Step Refusal → List ℕ → Type 0
StepTaken s g t out at bound (Ok (Done end ps)) o = (l : List ℕ) × (t ≡ filled l (parameters_of ps)) × (end ≡ at + length l) × (o ≡ sets out at l)
StepTaken s g t out at bound (Err r) o = t ≡ refused r
StepTaken s g t out at bound (Ok (Paused left end ps)) o =
    (l : List ℕ)
    × (t ≡ then l (plain_of (drop (length s - left) s) g (parameters_of ps)))
    × (end ≡ at + length l)
    × (o ≡ sets out at l)
    × (left < length s)
    × (plain_bound (drop (length s - left) s) (parameters_of ps) end ≤ bound)

-- A body that is to give t, filled into a buffer from its start on.
abbrev pub BodyFilled : Filled → List ℕ → Result BodyEnd Refusal → List ℕ → Type 0
BodyFilled t out (Ok b) o = (l : List ℕ) × (t ≡ filled l (parameters_of b.places)) × (b.end ≡ length l) × (o ≡ sets out 0 l)
BodyFilled t out (Err r) o = t ≡ refused r
