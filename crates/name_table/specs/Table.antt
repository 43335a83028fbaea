-- Names packed in a table, each in 64 bytes, and a list of them that is halved to find one.
use Rattle.std.specs.Prelude.{ℕ, zero, suc, ◌+◌, ◌-◌, ◌*◌, ◌/◌, ◌≤◌, ◌≡◌, Bool, true, false, List, [], ◌∷◌, ◌++◌, eqb, ltb, length, take, drop, get_or}
use Rattle.std.proofs.Math.Seq.{slice}
use Rattle.spec.specs.Choice.{pick, both}
use Rattle.spec.specs.Lists.{same}

-- The text of the name j.
unfoldable pub text_of : List ℕ → List ℕ → ℕ → List ℕ
text_of bytes lens j = take (get_or lens j 0) (drop (j * 64) bytes)

-- No number of the list is more than a bound.
unfoldable pub AtMost : ℕ → List ℕ → Type 0
AtMost most l = (i : ℕ) → get_or l i 0 ≤ most

-- A table of names: each has its 64 bytes, and the list has none but them.
pub record Table (bytes lens order : List ℕ) : Type 0 where
  pub some : 1 ≤ length lens
  pub few : length lens ≤ 4096
  pub room : length bytes ≡ length lens * 64
  pub short : AtMost 64 lens
  pub listed : length order ≡ length lens
  pub inside : AtMost (length lens - 1) order

-- Texts in the order of their bytes.
unfoldable pub before : List ℕ → List ℕ → Bool
before [] [] = false
before [] (y ∷ ys) = true
before (x ∷ xs) [] = false
before (x ∷ xs) (y ∷ ys) = pick (eqb x y) (before xs ys) (ltb x y)

-- Whether the name listed at a place comes before a text.
unfoldable pub listed_before : List ℕ → List ℕ → List ℕ → List ℕ → ℕ → Bool
listed_before bytes lens order name i = before (text_of bytes lens (get_or order i 0)) name

-- The place where halving ends, in at most so many steps.
unfoldable pub halved : ℕ → (ℕ → Bool) → ℕ → ℕ → ℕ
halved zero test low high = low
halved (suc n) test low high =
    let mid = low + (high - low) / 2 in
    pick (ltb low high) (pick (test mid) (halved n test (mid + 1) high) (halved n test low mid)) low

unfoldable pub place_in : List ℕ → List ℕ → List ℕ → ℕ → List ℕ → ℕ
place_in bytes lens order count name = halved count (listed_before bytes lens order name) 0 count

-- The name that is found by halving the first `count` of the list, if it is the text; else a number past all names.
unfoldable pub slot_of : List ℕ → List ℕ → List ℕ → ℕ → List ℕ → ℕ
slot_of bytes lens order count name =
    let j = get_or order (place_in bytes lens order count name) 0 in
    pick (both (ltb (place_in bytes lens order count name) count) (same name (text_of bytes lens j))) j (length lens)

-- ---- the list of names: equal ones once

-- A list with j put into its first `count` at a place: what stands there and behind it moves up.
unfoldable pub inserted : List ℕ → ℕ → ℕ → ℕ → List ℕ
inserted order count at j = take at order ++ j ∷ (slice at count order ++ drop (count + 1) order)

pub record Listing : Type 0 where
  pub order : List ℕ
  pub count : ℕ

-- The list with the name j, put in where halving ends, unless a listed name is the same.
unfoldable pub listed : List ℕ → List ℕ → ℕ → List ℕ → ℕ → Listing
listed bytes lens j order count =
    let name = text_of bytes lens j in
    let more = inserted order count (place_in bytes lens order count name) j in
    pick (ltb (slot_of bytes lens order count name) (length lens)) (record { order = order; count = count }) (record { order = more; count = count + 1 })

-- THE LIST of the first so many names, one after the other.
unfoldable pub listing : List ℕ → List ℕ → List ℕ → ℕ → Listing
listing bytes lens order zero = record { order = order; count = 0 }
listing bytes lens order (suc j) =
    let last = listing bytes lens order j in
    listed bytes lens j last.order last.count

abbrev pub Lists : List ℕ → ℕ → Listing → Type 0
Lists order count l = (order ≡ l.order) × (count ≡ l.count)
