-- ASK 2 of document 02, in its words: what the repair promises of the database that it writes, and of a sound one.
use Rattle.std.specs.Prelude.{ℕ, zero, suc, ◌≤◌, ◌≡◌, ◌⊎◌, false, List, [], ◌∷◌, ◌++◌, length, take, drop, Option, Some, None, Ok}
use Rattle.spec.specs.Lines.{Line, is_ignored, find_line, line_at}
use Rattle.spec.specs.Fields.{malformed_line, link_to, verdict}
use Rattle.spec.specs.Files.{alone}
use Rattle.spec.specs.Chain.{refused}
use Rattle.spec.specs.Questions.{terminal_of}
use Rattle.spec.specs.Repair.{lines_of, RepairOutcome, repair_outcome}
use Rattle.spec.specs.declared.Refusal.{Refusal}
use Rattle.spec.specs.declared.Refusal.TheVariants.{LostLink, Malformed, Cycle}
use Rattle.demands.specs.OneFile.{target}

-- ---- "a database without malformed lines, lost links or cycles"

-- Where so many links lead from a line.
unfoldable pub along : List ℕ → ℕ → Option ℕ → Option ℕ
along db zero found = found
along db (suc n) None = None
along db (suc n) (Some p) = along db n (target db (verdict (line_at db p)))

-- Something of the start of each line that is not ignored.
abbrev pub EachDescription : (ℕ → Type 0) → List Line → Type 0
EachDescription P [] = Unit {0}
EachDescription P (l ∷ ls) = (is_ignored l.text ≡ false → P l.start) × EachDescription P ls

-- Lines that no name finds count too.
pub record Sound (db : List ℕ) : Type 0 where
  pub well_formed : EachDescription (λ p. verdict (line_at db p) ≡ malformed_line → ⊥) (lines_of db)
  pub no_lost_link : EachDescription (λ p. (name : List ℕ) → verdict (line_at db p) ≡ link_to name → find_line db name ≡ None → ⊥) (lines_of db)
  pub no_cycle : EachDescription (λ p. (n : ℕ) → along db (suc n) (Some p) ≡ Some p → ⊥) (lines_of db)

-- ---- the promises

-- 5, 6 and 7.
abbrev pub Breaks : Refusal → Type 0
Breaks r = (r ≡ LostLink) ⊎ ((r ≡ Malformed) ⊎ (r ≡ Cycle))

-- A repair that was not refused: so many bytes, and so many records.
abbrev pub Repairs : RepairOutcome → ℕ → ℕ → Type 0
Repairs o bytes records = o.answer ≡ Ok (record { bytes = bytes; records = records })

pub record RepairPromises (db text records : List ℕ) (bytes : ℕ) : Type 0 where
  -- what was written is a sound database
  pub sound : Sound (take bytes (repair_outcome db text records).text)
  -- "Afterwards no name is refused with 5, 6 or 7"
  pub followed : (name : List ℕ) (r : Refusal) → terminal_of (alone (take bytes (repair_outcome db text records).text)) name ≡ refused r → Breaks r → ⊥
  -- "A database without malformed lines, lost links or cycles comes back unchanged with no records"
  pub unchanged : Sound db → repair_outcome db text records
      ≡ record { answer = Ok (record { bytes = length db; records = 0 }); text = db ++ drop (length db) text; records = records }
  -- it is no longer than before, so that a buffer of the database's length always has room for it
  pub no_longer : bytes ≤ length db
  -- mending twice changes nothing
  pub again : (more : List ℕ) → repair_outcome (take bytes (repair_outcome db text records).text) text more
      ≡ record { answer = Ok (record { bytes = bytes; records = 0 }); text = (repair_outcome db text records).text; records = more }

-- THE STATEMENT: all this holds of every repair, "unless it is refused". Its proof is proofs/RepairPromises.
abbrev pub Promised : Type 0
Promised = (db text records : List ℕ) (bytes count : ℕ) → Repairs (repair_outcome db text records) bytes count → RepairPromises db text records bytes
