-- What a repair reports lies within its buffers. Assumes nothing.
use Rattle.std.specs.Prelude.{Ok}
use Prim.Native.Nat.{ℕ, ◌*◌, ◌≤◌}
use mathlib.Core.Path.{◌≡◌}
use mathlib.Core.List.{List}
use native.Mathlib.Omega.{arith}
use borrow.Author.Tests.{leb-true}
use lib.Dec.{leb}
use lib.ListN.{length}
use Rattle.spec.specs.Choice.{both}
use Rattle.spec.specs.declared.Amounts.{Amounts}
use Rattle.spec.specs.Refusals.{too_large}
use Rattle.spec.specs.Repair.{mended, flattened, RepairOutcome, too_many_lines, put_mended, repair_outcome}
use Rattle.laws.proofs.Tests.{pick-told, both_true}
use Rattle.laws.proofs.RecordRoom.{mended-sixteen}

module _ (db text records : List ℕ) (a : Amounts) where
  abbrev Fits : RepairOutcome → Type 0
  Fits o = o.answer ≡ Ok a → (a.bytes ≤ length text) × (a.records * 16 ≤ length records)

  put-fits : Fits (put_mended (mended db) text records)
  unfolding put_mended
  put-fits =
      let flat = flattened (mended db).records in
      pick-told Fits (both (leb (length (mended db).text) (length text)) (leb (length flat) (length records)))
      (λ t e.
      let all : ◌≡◌ {A = Amounts} (record { bytes = length (mended db).text; records = length (mended db).records }) a = cc in
      let h = both_true _ _ t in
      rw (← all) (
        leb-true (length (mended db).text) (length text) h.0,
        omega (arith, leb-true (length flat) (length records) h.1, mended-sixteen db),
      ))
      (λ t e. let z : ◌≡◌ {A = ℕ} 0 1 = cc in absurd (omega arith))

  pub counts-fit : Fits (repair_outcome db text records)
  unfolding repair_outcome
  counts-fit =
      pick-told Fits (too_large db) (λ t e. let z : ◌≡◌ {A = ℕ} 0 1 = cc in absurd (omega arith))
      (λ u. pick-told Fits (too_many_lines db) (λ t e. let z : ◌≡◌ {A = ℕ} 0 1 = cc in absurd (omega arith)) (λ t. put-fits))
