-- The room that a repair needs, as the C header and the Rust crate state it.
use Rattle.std.specs.Prelude.{ℕ, ◌+◌, ◌*◌, ◌≤◌, ◌≡◌, List, length, Err}
use Rattle.spec.specs.Repair.{mended, flattened, repair_outcome}
use Rattle.spec.specs.declared.Refusal.TheVariants.{NoRoom}

-- THE STATEMENT, of every database, also of one that is refused with 3 or 14. Its proof is proofs/RepairRoom.
pub record EnoughRepairRoom : Type 0 where
  -- "a 16-byte record for each thing removed"
  pub sixteen : (db : List ℕ) → length (flattened (mended db).records) ≡ 16 * length (mended db).records
  -- what is removed has two bytes with its colon or newline, which only the last of the database may lack
  pub records : (db : List ℕ) → length (flattened (mended db).records) ≤ 8 * (length db + 1)
  -- the mended database is no longer than the original; so with these two buffers 9 never comes
  pub repair : (db text records : List ℕ) → length db ≤ length text → 8 * (length db + 1) ≤ length records
      → (repair_outcome db text records).answer ≡ Err NoRoom → ⊥
