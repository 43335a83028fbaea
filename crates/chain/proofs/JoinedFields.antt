-- The joined fields of a chain, line by line: those of the lines from the i-th on.
-- Assumes nothing.
use Prim.Native.Nat.{ℕ, ◌+◌, ◌≤◌, ◌<◌, min}
use mathlib.Core.Path.{◌≡◌, refl}
use mathlib.Core.List.{List, [], ◌++◌}
use native.Mathlib.Numerals.{add-one}
use native.Mathlib.Omega.{arith}
use lib.ListN.{length, take, drop, get_or, length-take, drop_of_length-le}
use lib.Seq.{drop-cons, get_or-take, take_all}
use Rattle.std.proofs.lemmas.List.{take_min}
use Rattle.spec.specs.Files.{line_of}
use Rattle.spec.specs.declared.Location.{Location}
use Rattle.spec.specs.Fields.{fields_of}
use Rattle.spec.specs.Chain.{Field, placed, joined_fields}

-- The fields of the lines from the i-th on, of the first n of an array.
unfoldable pub fields_from : List (List ℕ) → List Location → ℕ → ℕ → List Field
fields_from db lines n i = joined_fields db i (drop i (take n lines))

module _ (db : List (List ℕ)) (lines : List Location) (n : ℕ) where
  pub from_first : joined_fields db 0 (take n lines) ≡ fields_from db lines n 0
  unfolding fields_from
  from_first = refl

  pub from_end : (i : ℕ) → n ≤ i → fields_from db lines n i ≡ []
  unfolding fields_from joined_fields
  from_end i h =
      let z : length (take n lines) ≤ i = simp length-take (omega arith) in
      rw (drop_of_length-le (take n lines) z)

  pub from_next : (d : Location) (i : ℕ) → i < n → i < length lines
      → fields_from db lines n i ≡ placed i (get_or lines i d).file (fields_of (line_of db (get_or lines i d))) ++ fields_from db lines n (i + 1)
  unfolding fields_from joined_fields
  from_next d i h k =
      let z : i < length (take n lines) = simp length-take (omega arith) in
      rw (drop-cons (take n lines) i d z, get_or-take n lines i d h, add-one i)

-- The lines of a chain, whatever its count is: those up to the count, or all of the array.
module _ (lines : List Location) (count n : ℕ) (array : length lines ≡ 32) (e : n ≡ min count 32) where
  pub taken_length : length (take n lines) ≡ n
  taken_length = simp length-take (omega arith)

  pub from_taken : (db : List (List ℕ)) → joined_fields db 0 (take count lines) ≡ fields_from db (take n lines) n 0
  unfolding fields_from
  from_taken db =
      let fits : length (take n lines) ≤ n = omega (arith, taken_length) in
      let all : take n (take n lines) ≡ take n lines = take_all n (take n lines) fits in
      let same : take n lines ≡ take count lines = rw e (rw array at (take_min count lines)) in
      rw (all, same)
