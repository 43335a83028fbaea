-- The outcome by the tests that the code makes.
-- Assumes nothing.
use Rattle.std.specs.Prelude.{Ok, Err}
use Prim.Native.Nat.{ℕ, ◌*◌, ◌≤◌, ◌<◌}
use mathlib.Core.Path.{◌≡◌, refl, ◌∙◌, sym}
use mathlib.Core.Bool.{true, false}
use mathlib.Core.List.{List}
use native.Mathlib.Omega.{arith}
use borrow.Author.Tests.{le-leb, lt-leb, lt-ltb, le-ltb}
use lib.ListN.{length, take}
use lib.Seq.{length-take-le}
use Rattle.spec.specs.Refusals.{too_large}
use Rattle.spec.specs.declared.Refusal.TheVariants.{DatabaseTooLarge, NoRoom, TooManyLines}
use Rattle.spec.specs.Repair.{mended, flattened, not_repaired, put_mended, too_many_lines, repair_outcome}
use Rattle.laws.proofs.Tests.{both_false}
use Rattle.laws.proofs.Stores.{stored_front}
use Rattle.laws.proofs.RecordRoom.{mended-sixteen}
use Rattle.spec.specs.declared.Amounts.{Amounts}
use Rattle.mended_lines.specs.Lines.{LineMended}
use Rattle.repair.specs.Answers.{Delivers}

-- ---- 9

module _ (db text records : List ℕ) where
  pub text_full : length text < length (mended db).text → Delivers (put_mended (mended db) text records) (Err NoRoom) text records
  unfolding put_mended
  text_full h = rw (lt-leb (length (mended db).text) (length text) h) (refl, refl, refl)

  pub records_full : length records < length (mended db).records * 16 → Delivers (put_mended (mended db) text records) (Err NoRoom) text records
  unfolding put_mended
  records_full h =
      let more : length records < length (flattened (mended db).records) = omega (arith, mended-sixteen db) in
      rw (lt-leb (length (flattened (mended db).records)) (length records) more, both_false) (refl, refl, refl)

  pub both-fit : length (mended db).text ≤ length text → length (mended db).records * 16 ≤ length records → (text' records' : List ℕ) (r : Amounts)
      → LineMended (mended db) text 0 text' records 0 records' r → (bytes count : ℕ) → bytes ≡ length (mended db).text → count ≡ length (mended db).records
      → Delivers (put_mended (mended db) text records) (Ok (record { bytes = bytes; records = count })) text' records'
  unfolding put_mended
  both-fit h k text' records' r m bytes count e f =
      let fits : length (flattened (mended db).records) ≤ length records = omega (arith, mended-sixteen db) in
      rw (le-leb (length (mended db).text) (length text) h, le-leb (length (flattened (mended db).records)) (length records) fits, e, f)
      (refl, m.2 ∙ stored_front text (mended db).text h, m.3 ∙ stored_front records (flattened (mended db).records) fits)

  -- ---- 3 and 14

  pub too_large_lem : 1048576 < length db → repair_outcome db text records ≡ not_repaired DatabaseTooLarge text records
  unfolding repair_outcome too_large
  too_large_lem h = rw (lt-ltb 1048576 (length db) h)

  pub too_many : length db ≤ 1048576 → too_many_lines db ≡ true → repair_outcome db text records ≡ not_repaired TooManyLines text records
  unfolding repair_outcome too_large
  too_many h e = rw (le-ltb 1048576 (length db) h, e)

  pub not_refused : length db ≤ 1048576 → too_many_lines db ≡ false → repair_outcome db text records ≡ put_mended (mended db) text records
  unfolding repair_outcome too_large
  not_refused h e = rw (le-ltb 1048576 (length db) h, e)

-- ---- the links that are listed

-- Parts of lists of one length, up to one place.
pub alike : (n : ℕ) (x y : List ℕ) → n ≤ length x → length y ≡ length x → length (take n y) ≡ length (take n x)
alike n x y h e = let g : n ≤ length y = omega arith in length-take-le n y g ∙ sym (length-take-le n x h)
