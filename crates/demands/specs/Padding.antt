-- DEMAND 2, the padding: it "lasts at least the stated delay, and one pad fewer would not", said of what Send, Send at and its
-- second half write and report.
use Rattle.std.specs.Prelude.{ℕ, ◌+◌, ◌-◌, ◌*◌, ◌≤◌, ◌<◌, ◌≡◌, Bool, List, ◌++◌, length, drop, replicate, Result, Ok}
use Rattle.spec.specs.Padding.{Split, split, prefix_of, delay_for}
use Rattle.spec.specs.Position.{body, fill_in}
use Rattle.spec.specs.Answers.{Outcome}
use Rattle.spec.specs.Sending.{send_outcome, send_at_outcome, pad_outcome}
use Rattle.spec.specs.declared.Refusal.{Refusal}

-- So many pads, of ten bits each, at a speed in bits a second, for a delay in tenths of a millisecond: a pad lasts 100,000 / speed tenths.
pub record PaddingLaw (delay speed pads : ℕ) : Type 0 where
  pub lasts : delay * speed ≤ pads * 100000
  pub one_fewer : 0 < delay → 0 < speed → (pads - 1) * 100000 < delay * speed
  pub no_delay : delay ≡ 0 → pads ≡ 0
  pub no_speed : speed ≡ 0 → pads ≡ 0

-- An accepted call: the buffer now has `bytes`, then pads that obey the law for the delay, then what it had; the reported count is that of the
-- bytes and the pads.
pub record Padded (delay : ℕ) (star : Bool) (bytes : List ℕ) (lines speed pad : ℕ) (buffer : List ℕ) (outcome : Outcome (Result ℕ Refusal)) (count : ℕ) : Type 0 where
  pub pads : ℕ
  pub law : PaddingLaw (delay_for delay star lines) speed pads
  pub counted : count ≡ length bytes + pads
  pub written : outcome.buffer ≡ (bytes ++ replicate pads pad) ++ drop count buffer

-- Send: the command splits into prefix and body; the delay is the prefix's, and the bytes are the body.
abbrev pub SendPads : Type 0
SendPads = (cmd : List ℕ) (lines speed pad : ℕ) (buffer : List ℕ) (count : ℕ)
    → (send_outcome cmd lines speed pad buffer).answer ≡ Ok count
    → (p : Split)
    × (prefix_of cmd ≡ split p)
    × Padded p.delay p.star p.body lines speed pad buffer (send_outcome cmd lines speed pad buffer) count

-- Send at: the bytes are the body filled in, with its compensations.
abbrev pub SendAtPads : Type 0
SendAtPads = (cmd : List ℕ) (row column : ℕ) (back up : List ℕ) (lines speed pad : ℕ) (buffer : List ℕ) (count : ℕ)
    → (send_at_outcome cmd row column back up lines speed pad buffer).answer ≡ Ok count
    → (p : Split)
    × (l : List ℕ)
    × (prefix_of cmd ≡ split p)
    × (fill_in p.body row column back up ≡ body l)
    × Padded p.delay p.star l lines speed pad buffer (send_at_outcome cmd row column back up lines speed pad buffer) count

-- The second half of Send at: the delay and the bytes are those that it was handed.
abbrev pub PadPads : Type 0
PadPads = (delay : ℕ) (star : Bool) (bytes : List ℕ) (lines speed pad : ℕ) (buffer : List ℕ) (count : ℕ)
    → (pad_outcome delay star bytes lines speed pad buffer).answer ≡ Ok count
    → Padded delay star bytes lines speed pad buffer (pad_outcome delay star bytes lines speed pad buffer) count

-- THE STATEMENT. Its proof is proofs/Padding.
pub record PaddingDemand : Type 0 where
  pub send : SendPads
  pub send_at : SendAtPads
  pub pad : PadPads
