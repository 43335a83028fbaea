-- With buffers of the stated sizes a repair is never refused with 9. Assumes nothing.
use Rattle.std.specs.Prelude.{Err}
use Prim.Native.Nat.{ℕ, ◌+◌, ◌*◌, ◌≤◌}
use mathlib.Core.Path.{◌≡◌}
use mathlib.Core.Bool.{Bool, true, false}
use mathlib.Core.List.{List}
use native.Mathlib.Omega.{arith}
use borrow.Author.Tests.{le-leb}
use lib.ListN.{length}
use Rattle.spec.specs.Choice.{pick}
use Rattle.spec.specs.Refusals.{too_large}
use Rattle.spec.specs.Repair.{mended, too_many_lines, flattened, not_repaired, put_mended, repair_outcome}
use Rattle.spec.specs.declared.Refusal.TheVariants.{DatabaseTooLarge, TooManyLines, NoRoom}
use Rattle.laws.proofs.NoLonger.{mended-short}
use Rattle.laws.proofs.RecordRoom.{mended-sixteen, mended-few}
use Rattle.demands.specs.RepairRoom.{EnoughRepairRoom}

module _ (db : List ℕ) where
  records-short : length (flattened (mended db).records) ≤ 8 * (length db + 1)
  records-short = omega (arith, mended-sixteen db, mended-few db)

  put-fits : (text records : List ℕ) → length db ≤ length text → 8 * (length db + 1) ≤ length records
      → (put_mended (mended db) text records).answer ≡ Err NoRoom → ⊥
  unfolding put_mended
  put-fits text records h k e =
      let fits : length (mended db).text ≤ length text = omega (arith, mended-short db) in
      let fits-too : length (flattened (mended db).records) ≤ length records = omega (arith, records-short) in
      let q = rw (le-leb _ _ fits, le-leb _ _ fits-too) at e in
      let z : ◌≡◌ {A = ℕ} 0 1 = cc in
      omega arith

  repair-fits : (text records : List ℕ) → length db ≤ length text → 8 * (length db + 1) ≤ length records
      → (repair_outcome db text records).answer ≡ Err NoRoom → ⊥
  unfolding repair_outcome
  repair-fits text records h k e = go (too_large db) (too_many_lines db) e
    where
      go : (x y : Bool)
          → (pick x (not_repaired DatabaseTooLarge text records) (pick y (not_repaired TooManyLines text records) (put_mended (mended db) text records))).answer
          ≡ Err NoRoom → ⊥
      go true y q = let z : ◌≡◌ {A = ℕ} 0 1 = cc in omega arith
      go false true q = let z : ◌≡◌ {A = ℕ} 0 1 = cc in omega arith
      go false false q = put-fits text records h k q

pub enough_repair_room : EnoughRepairRoom
enough_repair_room = record { sixteen = mended-sixteen; records = records-short; repair = repair-fits }
