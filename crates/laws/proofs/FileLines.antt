-- Lines of several files: the laws of one file, file by file.
-- Assumes nothing.
use Rattle.std.specs.Prelude.{Option, Some, None}
use Prim.Native.Nat.{ℕ, zero, suc, ◌+◌, ◌-◌, ◌<◌}
use mathlib.Core.Path.{◌≡◌, refl, ap}
use mathlib.Core.List.{List, [], ◌∷◌}
use native.Mathlib.Numerals.{add-one}
use native.Mathlib.Omega.{arith}
use mathlib.Core.Bool.{true}
use borrow.Author.Tests.{le-leb}
use lib.ListN.{length, drop, get_or, length-drop}
use lib.Seq.{take_all}
use Rattle.spec.specs.Lines.{text_at, line_at, find_line}
use Rattle.spec.specs.Files.{alone, rising, good_ends, cut_at, contents, file_at, line_of, or_later, locate, find_from}
use Rattle.spec.specs.declared.Location.{Location}
use Rattle.laws.proofs.WholeLines.{Free, Holds, line_free, found-holds, find-at-start}

pub line_of_free : (db : List (List ℕ)) (l : Location) → Free 10 (line_of db l)
unfolding line_of line_at
line_of_free db l = line_free (text_at (file_at db l.file) l.at)

-- A line of a file, read in the part that is the file.
pub line_of_part : (db : List (List ℕ)) (p : Location) (part : List ℕ) → part ≡ file_at db p.file → line_of db p ≡ line_at part p.at
unfolding line_of
line_of_part db p part e = rw e

-- ---- the line that is found

drop_here : (k : ℕ) (f : List ℕ) (fs db : List (List ℕ)) → f ∷ fs ≡ drop k db → get_or db k [] ≡ f
drop_here zero f fs [] e = let z : ◌≡◌ {A = ℕ} 0 1 = cc in absurd (omega arith)
drop_here zero f fs (g ∷ db) e = cc
drop_here (suc k) f fs [] e = let z : ◌≡◌ {A = ℕ} 0 1 = cc in absurd (omega arith)
drop_here (suc k) f fs (g ∷ db) e = drop_here k f fs db e

drop-after : (k : ℕ) (f : List ℕ) (fs db : List (List ℕ)) → f ∷ fs ≡ drop k db → fs ≡ drop (k + 1) db
drop-after k f fs db e = rw add-one (go k db e)
  where
    go : (k : ℕ) (db : List (List ℕ)) → f ∷ fs ≡ drop k db → fs ≡ drop (suc k) db
    go zero [] e = let z : ◌≡◌ {A = ℕ} 0 1 = cc in absurd (omega arith)
    go zero (g ∷ db) e = cc
    go (suc k) [] e = let z : ◌≡◌ {A = ℕ} 0 1 = cc in absurd (omega arith)
    go (suc k) (g ∷ db) e = go k db e

module _ (db : List (List ℕ)) (name : List ℕ) where
  -- There is the file, and the line is the one that the search in it finds.
  abbrev FoundIn : Location → Type 0
  FoundIn l = (l.file < length db) × (find_line (file_at db l.file) name ≡ Some l.at)

  locate-line : (k : ℕ) (fs : List (List ℕ)) (l : Location) → fs ≡ drop k db → locate k fs name ≡ Some l → FoundIn l
  unfolding locate file_at
  locate-line k [] l d e = let z : ◌≡◌ {A = ℕ} 0 1 = cc in absurd (omega arith)
  locate-line k (f ∷ fs) l d e = go (find_line f name) refl (locate-line (k + 1) fs l (drop-after k f fs db d)) e
    where
      inside : k < length db
      inside = let n : length (f ∷ fs) ≡ length (drop k db) = ap length d in omega (arith, length-drop k db)

      go : (x : Option ℕ) → find_line f name ≡ x → (locate (k + 1) fs name ≡ Some l → FoundIn l) → or_later k x (locate (k + 1) fs name) ≡ Some l → FoundIn l
      go (Some p) h ih q =
          let i : record { file = k; at = p } ≡ l = cc in
          rw (← i, drop_here k f fs db d) (inside, h)
      go None h ih q = ih q

  pub located_line : (k : ℕ) (l : Location) → find_from db k name ≡ Some l → FoundIn l
  unfolding find_from
  located_line k l e = locate-line k (drop k db) l refl e

  -- It is not ignored and has the name.
  pub located_holds : (k : ℕ) (l : Location) → find_from db k name ≡ Some l → Holds name (line_of db l)
  unfolding line_of
  located_holds k l e = found-holds (file_at db l.file) name l.at (located_line k l e).1

-- ---- a single file

pub line-alone : (f : List ℕ) (p : ℕ) → line_of (f ∷ []) (record { file = 0; at = p }) ≡ line_at f p
unfolding line_of file_at
line-alone f p = refl

pub found-alone : (f name : List ℕ) → Holds name (line_at f 0) → find_from (f ∷ []) 0 name ≡ Some (record { file = 0; at = 0 })
unfolding find_from locate
found-alone f name h = rw (find-at-start f name h)

pub good-alone : (f : List ℕ) → good_ends (alone f) ≡ true
unfolding good_ends rising
good-alone f = rw (le-leb 0 (length f) (omega arith), le-leb (length f) (length f) (omega arith))

pub contents-alone : (f : List ℕ) → contents (alone f) ≡ f ∷ []
unfolding contents cut_at
contents-alone f = ap (λ (x : List ℕ). x ∷ []) (take_all (length f - 0) f (omega arith))
