-- What Show answers, by its tests in order, and where a shown part lies.
-- Assumes nothing.
use Rattle.std.specs.Prelude.{Option, Some, None, Ok, Err}
use Prim.Native.Nat.{ℕ, ◌+◌, ◌≤◌, ◌<◌}
use mathlib.Core.Path.{◌≡◌, refl}
use mathlib.Core.Bool.{Bool, true, false}
use mathlib.Core.List.{List}
use native.Mathlib.Omega.{arith}
use borrow.Author.Tests.{lt-ltb, le-ltb}
use lib.ListN.{length}
use Rattle.spec.specs.Choice.{pick}
use Rattle.spec.specs.Refusals.{good_name, too_large}
use Rattle.spec.specs.Lines.{extent}
use Rattle.spec.specs.Files.{Files, good_ends, contents, file_start, file_at, find_from}
use Rattle.spec.specs.Questions.{shown, show_answer}
use Rattle.spec.specs.declared.Location.{Location}
use Rattle.spec.specs.declared.Part.{Part}
use Rattle.spec.specs.declared.Refusal.TheVariants.{BadName, DatabaseTooLarge, UnknownName, BadEnds}
use Rattle.laws.proofs.FileParts.{located_extent}

module _ (db : Files) (name : List ℕ) where
  pub show-ends : good_ends db ≡ false → show_answer db name ≡ Err BadEnds
  unfolding show_answer
  show-ends g = rw g

  module _ (g : good_ends db ≡ true) where
    pub show-bad : good_name name ≡ false → show_answer db name ≡ Err BadName
    unfolding show_answer
    show-bad e = rw (g, e)

    pub show_large : good_name name ≡ true → 1048576 < length db.bytes → show_answer db name ≡ Err DatabaseTooLarge
    unfolding show_answer too_large
    show_large e h = rw (g, e, lt-ltb 1048576 (length db.bytes) h)

    pub show_searched : (x : Option Location) → good_name name ≡ true → length db.bytes ≤ 1048576 → find_from (contents db) 0 name ≡ x
        → show_answer db name ≡ shown db x
    unfolding show_answer too_large
    show_searched x e h f = rw (g, e, le-ltb 1048576 (length db.bytes) h, f)

pub shown-none : (db : Files) → shown db None ≡ Err UnknownName
unfolding shown
shown-none db = refl

-- the part of a description, by its file's start
pub shown_part : (db : Files) (l : Location) (start : ℕ) (part : List ℕ) → start ≡ file_start db l.file → part ≡ file_at (contents db) l.file
    → (Ok (record { from = (start + l.at); to = (start + extent part l.at) })) ≡ shown db (Some l)
unfolding shown
shown_part db l start part s p = rw (s, p)

-- A description that is found lies in the buffer.
pub found-fits : (db : Files) (name : List ℕ) (l : Location) → good_ends db ≡ true → find_from (contents db) 0 name ≡ Some l
    → (l.at ≤ extent (file_at (contents db) l.file) l.at)
    × (file_start db l.file + extent (file_at (contents db) l.file) l.at ≤ length db.bytes)
found-fits db name l g e = let i = located_extent db name l g e in (i.0, omega (arith, i.1, i.2))

-- A part that is shown lies in the buffer.
pub show-inside : (db : Files) (name : List ℕ) (part : Part) → show_answer db name ≡ Ok part → (part.from ≤ part.to) × (part.to ≤ length db.bytes)
unfolding show_answer shown
show-inside db name part e = go (good_ends db) refl (good_name name) (too_large db.bytes) (find_from (contents db) 0 name) refl e
  where
    go : (w : Bool) → good_ends db ≡ w → (g l : Bool) (f : Option Location) → find_from (contents db) 0 name ≡ f
        → pick w (pick g (pick l (Err DatabaseTooLarge) (shown db f)) (Err BadName)) (Err BadEnds) ≡ Ok part → (part.from ≤ part.to) × (part.to ≤ length db.bytes)
    go true w true true f h q = let z : ◌≡◌ {A = ℕ} 0 1 = cc in absurd (omega arith)
    go true w true false (Some l) h q =
        let a : ◌≡◌ {A = Part} (record { from = file_start db l.file + l.at; to = file_start db l.file + extent (file_at (contents db) l.file) l.at }) part = cc in
        let i = found-fits db name l w h in
        rw (← a) (omega (arith, i.0), i.1)
    go true w true false None h q = let z : ◌≡◌ {A = ℕ} 0 1 = cc in absurd (omega arith)
    go true w false l f h q = let z : ◌≡◌ {A = ℕ} 0 1 = cc in absurd (omega arith)
    go false w g l f h q = let z : ◌≡◌ {A = ℕ} 0 1 = cc in absurd (omega arith)
