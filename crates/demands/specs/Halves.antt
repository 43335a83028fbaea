-- ASK 7, its statement: "Send at stays and equals the two in a row, given room between them".
use Rattle.std.specs.Prelude.{ℕ, ◌≤◌, ◌≡◌, List, take, Result, Ok, Err}
use Rattle.spec.specs.Answers.{Outcome, keeping}
use Rattle.spec.specs.Sending.{send_at_outcome, fill_outcome, pad_outcome}
use Rattle.spec.specs.declared.Refusal.TheVariants.{NoRoom}
use Rattle.spec.specs.declared.Finished.{Finished as FinishedCommand}
use Rattle.spec.specs.declared.Refusal.{Refusal}

-- "Given room between them."
abbrev pub RoomBetween : Result FinishedCommand Refusal → Type 0
RoomBetween a = a ≡ Err NoRoom → ⊥

-- The second half on what the first one gave: its delay, its star, and the bytes that it reports of its buffer. Where the first half is
-- refused there is no second.
abbrev pub and_then : Result FinishedCommand Refusal → List ℕ → ℕ → ℕ → ℕ → List ℕ → Outcome (Result ℕ Refusal)
and_then (Ok f) between lines speed pad buffer = pad_outcome f.delay f.star (take f.count between) lines speed pad buffer
and_then (Err r) between lines speed pad buffer = keeping (Err r) buffer

-- Answers, refusals and every byte of the buffer are equal.
abbrev pub TwoInARow : Type 0
TwoInARow = (cmd : List ℕ) (row column : ℕ) (back up between : List ℕ) (lines speed pad : ℕ) (buffer : List ℕ)
    → RoomBetween (fill_outcome cmd row column back up between).answer
    → send_at_outcome cmd row column back up lines speed pad buffer
    ≡ and_then (fill_outcome cmd row column back up between).answer (fill_outcome cmd row column back up between).buffer lines speed pad buffer

-- The delay that the first half gives is none that the second refuses.
abbrev pub DelayTaken : Type 0
DelayTaken = (cmd : List ℕ) (row column : ℕ) (back up between : List ℕ) (f : FinishedCommand)
    → (fill_outcome cmd row column back up between).answer ≡ Ok f → f.delay ≤ 99999

-- THE STATEMENT of Ask 7. Its proof is proofs/Halves.
pub record Halves : Type 0 where
  pub two_in_a_row : TwoInARow
  pub delay_taken : DelayTaken
