-- The records of a repair: sixteen bytes each, and at most one for two bytes of the database. A removed field has two bytes with its colon,
-- a dropped line has two with its newline; only the last line of the database may be a byte short.
-- Assumes nothing.
use Prim.Native.Nat.{ℕ, ◌+◌, ◌*◌, ◌≤◌}
use mathlib.Core.Path.{◌≡◌, refl, ◌∙◌, ap, sym}
use mathlib.Core.Logic.{inl, inr}
use mathlib.Core.Bool.{Bool, true, false}
use mathlib.Core.List.{List, [], ◌∷◌, ◌++◌, append_assoc}
use native.Mathlib.Omega.{arith}
use lib.Dec.{eqb}
use lib.ListN.{length, length-append}
use Rattle.spec.specs.Choice.{pick}
use Rattle.laws.proofs.Tests.{clash}
use Rattle.spec.specs.Lists.{upto, past, holds}
use Rattle.spec.specs.Lines.{join, text_at, Line, lines_from, blank, comment, is_ignored}
use Rattle.spec.specs.Fields.{names_of, reading}
use Rattle.laws.proofs.FieldTexts.{line_parts}
use Rattle.spec.specs.Repair.{
  lines_of,
  no_colon,
  pieces,
  field_pieces,
  field_reason,
  Removed,
  reason_at,
  link_removals,
  Part,
  parts_from,
  parts_of,
  part_records,
  removal_record,
  mend_line,
  mend_lines,
  mended,
  flattened,
}
use Rattle.laws.proofs.Chunks.{LineByLine, last, more, line_of, line-by-line}
use Rattle.laws.proofs.KeptFields.{Pieced, linked_by, pieces_pieced, pieces-flat}
use Rattle.laws.proofs.NoLonger.{removed_long, text-short, chunk_text}

-- ---- the records of a line: none; those of its fields; or one for the whole line

line-records : (db : List ℕ) (r n : ℕ) (l : Line) (P : List (List ℕ) → Type 0) → P []
    → (holds 58 l.text ≡ true → P (part_records n (parts_of r l.text)))
    → (is_ignored l.text ≡ false → P (removal_record n 0 no_colon (length l.text) ∷ []))
    → P (mend_line db r n l).records
unfolding mend_line
line-records db r n l P none parts whole = go (is_ignored l.text) refl (holds 58 l.text) refl
  where
    go : (x : Bool) → is_ignored l.text ≡ x → (y : Bool) → holds 58 l.text ≡ y → P (mend_line db r n l).records
    go true e y f = rw e none
    go false e true f = rw (e, f) (parts f)
    go false e false f = rw (e, f) (whole e)

-- ---- sixteen bytes each

abbrev pub Sixteen : List (List ℕ) → Type 0
Sixteen rs = length (flattened rs) ≡ 16 * length rs

sixteen_nil : Sixteen []
unfolding flattened
sixteen_nil = refl

sixteen_more : (line place reason count : ℕ) (rs : List (List ℕ)) → Sixteen rs → Sixteen (removal_record line place reason count ∷ rs)
unfolding flattened
sixteen_more line place reason count rs h = omega arith

pub flat_append : (a b : List (List ℕ)) → flattened (a ++ b) ≡ flattened a ++ flattened b
unfolding flattened
flat_append [] b = refl
flat_append (r ∷ a) b = ap (λ (l : List ℕ). r ++ l) (flat_append a b) ∙ sym (append_assoc r (flattened a) (flattened b))

sixteen-append : (a b : List (List ℕ)) → Sixteen a → Sixteen b → Sixteen (a ++ b)
sixteen-append a b h k = omega (arith, ap length (flat_append a b), length-append (flattened a) (flattened b), length-append a b)

sixteen_parts : (n : ℕ) (fs : List Part) → Sixteen (part_records n fs)
unfolding part_records
sixteen_parts n [] = sixteen_nil
sixteen_parts n (f ∷ fs) = go (eqb f.reason 0) (sixteen_parts n fs)
  where
    go : (x : Bool) → Sixteen (part_records n fs)
        → Sixteen (pick x (part_records n fs) (removal_record n f.place f.reason (length f.bytes) ∷ part_records n fs))
    go true h = h
    go false h = sixteen_more n f.place f.reason (length f.bytes) (part_records n fs) h

pub sixteen-line : (db : List ℕ) (r n : ℕ) (l : Line) → Sixteen (mend_line db r n l).records
sixteen-line db r n l =
    line-records db r n l Sixteen sixteen_nil (λ h. sixteen_parts n (parts_of r l.text)) (λ i. sixteen_more n 0 no_colon (length l.text) [] sixteen_nil)

pub sixteen_lines : (db : List ℕ) (removed : List Removed) (n : ℕ) (ls : List Line) → Sixteen (mend_lines db removed n ls).records
unfolding mend_lines
sixteen_lines db removed n [] = sixteen_nil
sixteen_lines db removed n (l ∷ ls) =
    sixteen-append (mend_line db (reason_at removed l.start) n l).records (mend_lines db removed (n + 1) ls).records
    (sixteen-line db (reason_at removed l.start) n l) (sixteen_lines db removed (n + 1) ls)

-- ---- one for two bytes

parts_few : (linked : Bool) (r place : ℕ) (ps : List (List ℕ)) (n : ℕ) → Pieced ps
    → 2 * length (part_records n (parts_from linked r place ps)) ≤ length (flattened ps) + 1
unfolding parts_from part_records flattened
parts_few linked r place [] n h = omega arith
parts_few linked r place (p ∷ ps) n (inl h) =
    go (eqb (field_reason linked r (reading (upto 58 p))) 0) refl (part_records n (parts_from (linked_by linked p) r (place + length p) ps))
    (parts_few (linked_by linked p) r (place + length p) ps n h.1)
  where
    go : (x : Bool) → eqb (field_reason linked r (reading (upto 58 p))) 0 ≡ x → (rs : List (List ℕ)) → 2 * length rs ≤ length (flattened ps) + 1
        → 2 * length (pick x rs (removal_record n place (field_reason linked r (reading (upto 58 p))) (length p) ∷ rs)) ≤ length (p ++ flattened ps) + 1
    go true e rs k = omega (arith, length-append p (flattened ps))
    go false e rs k = omega (arith, removed_long linked r p h.0.0 h.0.1 h.0.2 e, length-append p (flattened ps))
parts_few linked r place (p ∷ []) n (inr h) = go (eqb (field_reason linked r (reading (upto 58 p))) 0)
  where
    go : (x : Bool) → 2 * length (pick x [] (removal_record n place (field_reason linked r (reading (upto 58 p))) (length p) ∷ [])) ≤ length (p ++ []) + 1
    go true = omega arith
    go false = omega (arith, h.1, length-append p [])
parts_few linked r place (p ∷ q ∷ ps) n (inr h) = let z : ◌≡◌ {A = ℕ} 0 1 = cc in absurd (omega arith)

-- the names' colon makes up for a last field without one
fields-few : (r : ℕ) (l : List ℕ) (n : ℕ) → holds 58 l ≡ true → 2 * length (part_records n (parts_of r l)) ≤ length l
unfolding parts_of field_pieces
fields-few r l n h =
    let few : 2 * length (part_records n (parts_of r l)) ≤ length (flattened (pieces (past 58 l))) + 1 =
    parts_few false r _ (pieces (past 58 l)) n (pieces_pieced (past 58 l)) in
    let whole : length l ≡ length (names_of l) + length (58 ∷ past 58 l) = ap length (line_parts l h) ∙ length-append (names_of l) (58 ∷ past 58 l) in
    omega (arith, few, ap length (pieces-flat (past 58 l)), whole)

-- a line of so many bytes, its newline counted
pub line-few : (db : List ℕ) (r n : ℕ) (l : Line) → 2 * length (mend_line db r n l).records ≤ length l.text + 1
line-few db r n l =
    line-records db r n l (λ rs. 2 * length rs ≤ length l.text + 1) (omega arith) (λ h. omega (arith, fields-few r l.text n h)) (λ i. some l.text i)
  where
    some : (l : List ℕ) → is_ignored l ≡ false → 2 * 1 ≤ length l + 1
    some [] i = clash (unfold comment blank in i)
    some (b ∷ l) i = omega arith

module _ (removed : List Removed) (db : List ℕ) where
  abbrev first : ℕ → ℕ → List ℕ → List (List ℕ)
  first n at s = (mend_line db (reason_at removed at) n (line_of at s)).records

  few-from : {at : ℕ} {s : List ℕ} → LineByLine db at s → (n : ℕ) → 2 * length (mend_lines db removed n (lines_from at (join at s))).records ≤ length s + 1
  unfolding mend_lines
  few-from (last at s o own) n =
      rw (o at 0).0 (omega (arith, line-few db (reason_at removed at) n (line_of at s), text-short at s, length-append (first n at s) []))
  few-from (more at c t r chunk own rest) n =
      let line = line-few db (reason_at removed at) n (line_of at (c ++ r)) in
      let later = (mend_lines db removed (n + 1) (lines_from (at + length c) (join (at + length c) r))).records in
      rw (chunk at r).1
      (omega (
        arith,
        line,
        ap length (chunk at r).0,
        chunk_text c t chunk,
        few-from rest (n + 1),
        length-append (first n at (c ++ r)) later,
        length-append c r,
      ))

-- THE RECORDS OF A REPAIR: sixteen bytes each, and at most one for two bytes.
pub mended-sixteen : (db : List ℕ) → Sixteen (mended db).records
unfolding mended
mended-sixteen db = sixteen_lines db (link_removals (lines_of db)) 0 (lines_of db)

pub mended-few : (db : List ℕ) → 2 * length (mended db).records ≤ length db + 1
unfolding mended
mended-few db = whole (link_removals (lines_of db))
  where
    whole : (removed : List Removed) → 2 * length (mend_lines db removed 0 (lines_of db)).records ≤ length db + 1
    whole removed = unfold lines_of text_at in few-from removed db (line-by-line db) 0
