-- DEMAND 1, of the operations with output: "a refused call changes no byte of the output buffer; an accepted one changes only the bytes it
-- reports". That each refusal comes exactly when it is due is what the operations' definitions say, and their functions' promises.
use Rattle.std.specs.Prelude.{ℕ, ◌*◌, ◌≤◌, ◌≡◌, Bool, List, length, drop, Option, Some, None, Result, Ok, Err}
use Rattle.spec.specs.Files.{Files}
use Rattle.spec.specs.Answers.{Outcome}
use Rattle.spec.specs.Questions.{string_outcome}
use Rattle.spec.specs.Listing.{list_outcome, flat_outcome}
use Rattle.spec.specs.Batch.{batch_outcome}
use Rattle.spec.specs.Finder.{finder_outcome}
use Rattle.spec.specs.Repair.{RepairOutcome, repair_outcome}
use Rattle.spec.specs.Sending.{send_outcome, send_at_outcome, fill_outcome, pad_outcome}
use Rattle.spec.specs.declared.Refusal.{Refusal}
use Rattle.spec.specs.declared.Amounts.{Amounts}
use Rattle.spec.specs.declared.finder.Finder.{Finder}
use Rattle.spec.specs.declared.Finished.{Finished}

-- So many bytes fit a buffer, and behind them, up to its end, it is as it was.
pub record OnlyFirst (n : ℕ) (before after : List ℕ) : Type 0 where
  pub fit : n ≤ length before
  pub as_long : length after ≡ length before
  pub rest : drop n after ≡ drop n before

-- A call that writes and reports a count, of things of so many bytes each.
pub record Writes (size : ℕ) (buffer : List ℕ) (o : Outcome (Result ℕ Refusal)) : Type 0 where
  pub refused : (r : Refusal) → o.answer ≡ Err r → o.buffer ≡ buffer
  pub accepted : (n : ℕ) → o.answer ≡ Ok n → OnlyFirst (size * n) buffer o.buffer

-- A question that writes: "absent is no refusal, and writes nothing".
pub record Answers (buffer : List ℕ) (o : Outcome (Result (Option ℕ) Refusal)) : Type 0 where
  pub refused : (r : Refusal) → o.answer ≡ Err r → o.buffer ≡ buffer
  pub absent : o.answer ≡ (Ok None) → o.buffer ≡ buffer
  pub present : (n : ℕ) → o.answer ≡ (Ok (Some n)) → OnlyFirst n buffer o.buffer

-- The first half of Send at, whose answer has the count of the bytes.
pub record Fills (buffer : List ℕ) (o : Outcome (Result Finished Refusal)) : Type 0 where
  pub refused : (r : Refusal) → o.answer ≡ Err r → o.buffer ≡ buffer
  pub accepted : (f : Finished) → o.answer ≡ Ok f → OnlyFirst f.count buffer o.buffer

-- Repair, which has two buffers: so many bytes of the one, and records of 16 bytes in the other.
pub record Repairs (text records : List ℕ) (o : RepairOutcome) : Type 0 where
  pub refused : (r : Refusal) → o.answer ≡ Err r → (o.text ≡ text) × (o.records ≡ records)
  pub accepted : (a : Amounts) → o.answer ≡ Ok a → OnlyFirst a.bytes text o.text × OnlyFirst (16 * a.records) records o.records

-- THE STATEMENT, for every input. Its proof is proofs/Demand1.
pub record Demand1 : Type 0 where
  pub string : (db : Files) (name id buffer : List ℕ) → Answers buffer (string_outcome db name id buffer)
  pub list : (db : Files) (name buffer : List ℕ) → Writes 12 buffer (list_outcome db name buffer)
  pub flat : (db : Files) (name buffer : List ℕ) → Writes 1 buffer (flat_outcome db name buffer)
  pub batch : (db : Files) (name questions buffer : List ℕ) → Writes 8 buffer (batch_outcome db name questions buffer)
  pub finder : (f : Finder) (text buffer : List ℕ) → Writes 1 buffer (finder_outcome f text buffer)
  pub repair : (db text records : List ℕ) → Repairs text records (repair_outcome db text records)
  pub send : (cmd : List ℕ) (lines speed pad : ℕ) (buffer : List ℕ) → Writes 1 buffer (send_outcome cmd lines speed pad buffer)
  pub send_at : (cmd : List ℕ) (row column : ℕ) (back up : List ℕ) (lines speed pad : ℕ) (buffer : List ℕ)
      → Writes 1 buffer (send_at_outcome cmd row column back up lines speed pad buffer)
  pub fill : (cmd : List ℕ) (row column : ℕ) (back up buffer : List ℕ) → Fills buffer (fill_outcome cmd row column back up buffer)
  pub pad : (delay : ℕ) (star : Bool) (bytes : List ℕ) (lines speed pad : ℕ) (buffer : List ℕ)
      → Writes 1 buffer (pad_outcome delay star bytes lines speed pad buffer)
