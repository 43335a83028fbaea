-- The numbers that the C header and the Rust crate state: lent buffers of these sizes are never too small, and no command asks for more pads.
use Rattle.std.specs.Prelude.{ℕ, ◌+◌, ◌*◌, ◌≤◌, ◌≡◌, Bool, List, length}
use Rattle.spec.specs.Files.{Files}
use Rattle.spec.specs.Padding.{Split, split, prefix_of, delay_for, pad_count}
use Rattle.spec.specs.Questions.{string_outcome}
use Rattle.spec.specs.Listing.{list_outcome, flat_outcome}
use Rattle.spec.specs.Sending.{send_outcome, send_at_outcome, fill_outcome}
use Rattle.demands.specs.Demand3.{HasRoom, QuestionHasRoom}
use Rattle.demands.specs.Halves.{RoomBetween}

-- THE STATEMENT. Its proof is proofs/Room.
pub record EnoughRoom : Type 0 where
  -- 5,460 records of 12 bytes
  pub list : (db : Files) (name buffer : List ℕ) → 65520 ≤ length buffer → HasRoom (list_outcome db name buffer).answer
  -- a chain's size and a newline
  pub flat : (db : Files) (name buffer : List ℕ) → 16385 ≤ length buffer → HasRoom (flat_outcome db name buffer).answer
  -- a decoded string is no longer than its field
  pub string : (db : Files) (name id buffer : List ℕ) → 16384 ≤ length buffer → QuestionHasRoom (string_outcome db name id buffer).answer
  -- 9,999.9 ms for each of 1,000 lines at 115,200 bits a second
  pub pads : (cmd : List ℕ) (p : Split) (lines speed : ℕ) → prefix_of cmd ≡ split p → lines ≤ 1000 → speed ≤ 115200
      → pad_count (delay_for p.delay p.star lines) speed ≤ 115198848
  -- the same of a delay that is handed to the second half of Send at
  pub handed-pads : (delay : ℕ) (star : Bool) (lines speed : ℕ) → delay ≤ 99999 → lines ≤ 1000 → speed ≤ 115200
      → pad_count (delay_for delay star lines) speed ≤ 115198848
  -- "body, compensations", without pads: row and column are each written once at most, from two bytes of the command or more, as five
  -- digits or as a byte with two compensations; "only back empty: byte 8 stands for it", twice
  pub fill : (cmd : List ℕ) (row column : ℕ) (back up buffer : List ℕ) → length cmd + 2 * (length back + length up) + 8 ≤ length buffer
      → RoomBetween (fill_outcome cmd row column back up buffer).answer
  -- "body, compensations, then pads": the same and the most pads
  pub send_at : (cmd : List ℕ) (row column : ℕ) (back up : List ℕ) (lines speed pad : ℕ) (buffer : List ℕ)
      → length cmd + 2 * (length back + length up) + 8 + 115198848 ≤ length buffer
      → HasRoom (send_at_outcome cmd row column back up lines speed pad buffer).answer
  -- "Send copies percent signs unchanged": the command and the most pads
  pub send : (cmd : List ℕ) (lines speed pad : ℕ) (buffer : List ℕ) → length cmd + 115198848 ≤ length buffer
      → HasRoom (send_outcome cmd lines speed pad buffer).answer
