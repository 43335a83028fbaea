-- Where the files lie in the buffer: the ends, the bytes of a file, and a line that is found in one.
-- Assumes nothing.
use Rattle.std.specs.Prelude.{Some}
use Prim.Native.Nat.{ℕ, zero, suc, ◌+◌, ◌-◌, ◌≤◌, ◌<◌}
use mathlib.Core.Path.{◌≡◌, refl, ap}
use mathlib.Core.Bool.{true}
use mathlib.Core.List.{List, [], ◌∷◌}
use native.Mathlib.Omega.{arith}
use borrow.Author.Tests.{leb-true}
use lib.Dec.{leb}
use lib.ListN.{length, take, drop, get_or, length-take, length-drop}
use Rattle.spec.specs.Choice.{between}
use Rattle.spec.specs.Lines.{extent}
use Rattle.spec.specs.Files.{Files, rising, good_ends, cut_at, contents, file_start, file_at, find_from}
use Rattle.spec.specs.declared.Location.{Location}
use Rattle.laws.proofs.Tests.{both_true}
use Rattle.laws.proofs.Extents.{extent-inside, found_inside}
use Rattle.laws.proofs.FileLines.{located_line}

-- ---- the bytes of a file

length_cut : (from : ℕ) (bytes ends : List ℕ) → length (cut_at from bytes ends) ≡ length ends
unfolding cut_at
length_cut from bytes [] = refl
length_cut from bytes (e ∷ es) = ap suc (length_cut e bytes es)

pub length-contents : (db : Files) → length (contents db) ≡ length db.ends
unfolding contents
length-contents db = length_cut 0 db.bytes db.ends

cut_is : (k from : ℕ) (bytes ends : List ℕ) → k < length ends
    → get_or (cut_at from bytes ends) k [] ≡ take (get_or ends k 0 - get_or (from ∷ ends) k 0) (drop (get_or (from ∷ ends) k 0) bytes)
unfolding cut_at
cut_is k from bytes [] h = absurd (omega arith)
cut_is zero from bytes (e ∷ es) h = refl
cut_is (suc k) from bytes (e ∷ es) h = cut_is k e bytes es (omega arith)

pub file_is : (db : Files) (k : ℕ) → k < length db.ends
    → file_at (contents db) k ≡ take (get_or db.ends k 0 - file_start db k) (drop (file_start db k) db.bytes)
unfolding file_at contents file_start
file_is db k h = cut_is k 0 db.bytes db.ends h

cut_short : (k from : ℕ) (bytes ends : List ℕ) → length (get_or (cut_at from bytes ends) k []) ≤ length bytes
unfolding cut_at
cut_short k from bytes [] = omega arith
cut_short zero from bytes (e ∷ es) = simp (length-take, length-drop) (omega arith)
cut_short (suc k) from bytes (e ∷ es) = cut_short k e bytes es

pub file-short : (db : Files) (k : ℕ) → length (file_at (contents db) k) ≤ length db.bytes
unfolding file_at contents
file-short db k = cut_short k 0 db.bytes db.ends

-- ---- ends that do not fall, nor pass the buffer

pub record Rises (from size e : ℕ) (es : List ℕ) : Type 0 where
  pub low : from ≤ e
  pub high : e ≤ size
  pub later : rising e size es ≡ true

pub rises : (from size e : ℕ) (es : List ℕ) → rising from size (e ∷ es) ≡ true → Rises from size e es
unfolding rising
rises from size e es h =
    let w = both_true (between from size e) (rising e size es) h in
    let b = both_true (leb from e) (leb e size) w.0 in
    record { low = leb-true from e b.0; high = leb-true e size b.1; later = w.1 }

pub rising-at : (size k from : ℕ) (ends : List ℕ) → rising from size ends ≡ true → k < length ends
    → (get_or (from ∷ ends) k 0 ≤ get_or ends k 0) × (get_or ends k 0 ≤ size)
rising-at size k from [] r h = absurd (omega arith)
rising-at size zero from (e ∷ es) r h = let w = rises from size e es r in (w.low, w.high)
rising-at size (suc k) from (e ∷ es) r h = rising-at size k e es (rises from size e es r).later (omega arith)

module _ (db : Files) (good : good_ends db ≡ true) where
  pub good-few : length db.ends ≤ 8
  unfolding good_ends
  good-few = leb-true (length db.ends) 8 (both_true (leb (length db.ends) 8) (rising 0 (length db.bytes) db.ends) good).0

  pub good-rising : rising 0 (length db.bytes) db.ends ≡ true
  unfolding good_ends
  good-rising = (both_true (leb (length db.ends) 8) (rising 0 (length db.bytes) db.ends) good).1

  -- A file lies between its start and its end, inside the buffer.
  pub file-inside : (k : ℕ) → k < length db.ends
      → (file_start db k + length (file_at (contents db) k) ≡ get_or db.ends k 0) × (get_or db.ends k 0 ≤ length db.bytes)
  unfolding file_start
  file-inside k h =
      let r = rising-at (length db.bytes) k 0 db.ends good-rising h in
      let n = simp (length-take, length-drop) at (ap length (file_is db k h)) in
      (omega (arith, n), r.1)

-- ---- a line that is found lies in its file

-- There is the file, and the line starts in it.
pub located_in : (fs : List (List ℕ)) (name : List ℕ) (k : ℕ) (l : Location) → find_from fs k name ≡ Some l
    → (l.file < length fs) × (l.at ≤ length (file_at fs l.file))
located_in fs name k l e =
    let h = located_line fs name k l e in
    (h.0, found_inside (file_at fs l.file) name l.at h.1)

-- The description that Show shows lies in its file, from its start on.
pub located_extent : (db : Files) (name : List ℕ) (l : Location) → good_ends db ≡ true → find_from (contents db) 0 name ≡ Some l
    → (l.at ≤ extent (file_at (contents db) l.file) l.at)
    × (file_start db l.file + extent (file_at (contents db) l.file) l.at ≤ get_or db.ends l.file 0)
    × (get_or db.ends l.file 0 ≤ length db.bytes)
located_extent db name l good e =
    let i = located_in (contents db) name 0 l e in
    let x = extent-inside (file_at (contents db) l.file) l.at i.1 in
    let f = file-inside db good l.file (omega (arith, length-contents db, i.0)) in
    (x.0, omega (arith, x.1, f.0), f.1)
