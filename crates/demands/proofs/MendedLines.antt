-- The lines of the mended database beside those of the original that are left: pair by pair the same names, and the verdict that the
-- link's reason leaves; on the mended side there may be an empty line more.
-- Assumes nothing.
use Prim.Native.Nat.{ℕ, ◌+◌}
use mathlib.Core.Path.{◌≡◌, refl, ◌∙◌, ap, sym}
use mathlib.Core.Bool.{Bool, true, false}
use mathlib.Core.List.{List, [], ◌∷◌, ◌++◌, append-nil}
use lib.ListN.{length}
use Rattle.spec.specs.Choice.{pick}
use Rattle.laws.proofs.Tests.{clash}
use Rattle.spec.specs.Lists.{holds}
use Rattle.spec.specs.Lines.{join, text_at, Line, line_text, later_lines, lines_from, blank, comment, is_ignored, has_name}
use Rattle.spec.specs.Fields.{names_of, Verdict, verdict}
use Rattle.laws.proofs.WholeLines.{Free, line_free, line_shift}
use Rattle.laws.proofs.FieldTexts.{kept-ignored, kept-name}
use Rattle.spec.specs.Repair.{
  lines_of,
  own_bytes,
  is_dropped,
  left,
  field_pieces,
  link_of,
  Removed,
  reason_at,
  Part,
  parts_of,
  kept_bytes,
  all_kept,
  closed,
  mended_line,
  mend_line,
  mend_lines,
}
use Rattle.laws.proofs.Chunks.{Chunk, closed_chunk, Open, LineByLine, last, more, line_of, line-by-line}
use Rattle.laws.proofs.KeptFields.{stands, verdict-kept, verdict-mended, closed_text, closed_is, closed-ends, closed_tail, mended_free}

module _ (removed : List Removed) where
  -- ---- a line and what it was mended to

  abbrev pub left-verdict : Line → Verdict
  left-verdict d = stands (reason_at removed d.start) (link_of (field_pieces d.text))

  abbrev pub Same : Line → List ℕ → Type 0
  Same d t = (is_ignored d.text ≡ is_ignored t)
      × (is_ignored d.text ≡ false → ((name : List ℕ) → has_name name t ≡ has_name name d.text) × (verdict t ≡ left-verdict d))

  abbrev pub Parallel : List Line → List Line → Type 0
  Parallel [] [] = Unit {0}
  Parallel [] (m ∷ ms) = (is_ignored m.text ≡ true) × (ms ≡ [])
  Parallel (d ∷ ds) [] = ⊥
  Parallel (d ∷ ds) (m ∷ ms) = Same d m.text × Parallel ds ms

  -- ---- what is written for a line: nothing; its own bytes; or another line

  pub data Written (db : List ℕ) (n : ℕ) (l : Line) : Type 0 where
    gone : is_dropped l.text ≡ true → (mend_line db (reason_at removed l.start) n l).text ≡ [] → Written db n l
    kept : is_dropped l.text ≡ false → (mend_line db (reason_at removed l.start) n l).text ≡ own_bytes db l.start → Same l l.text → Written db n l
    changed : (t : List ℕ) → is_dropped l.text ≡ false → (mend_line db (reason_at removed l.start) n l).text ≡ t ++ 10 ∷ []
        → Chunk (t ++ 10 ∷ []) t → Same l t → Written db n l

  module _ (db : List ℕ) (n : ℕ) (l : Line) (free : Free 10 l.text) where
    abbrev parts : List Part
    parts = parts_of (reason_at removed l.start) l.text

    changed-to : is_ignored l.text ≡ false → holds 58 l.text ≡ true
        → Same l (closed_text (names_of l.text ++ 58 ∷ kept_bytes parts))
    changed-to i h =
        let u = closed_tail (names_of l.text) (kept_bytes parts) in
        let k = kept-ignored l.text u.0 h i in
        let w : is_ignored (closed_text (names_of l.text ++ 58 ∷ kept_bytes parts)) ≡ false = rw u.1 k in
        (i ∙ sym w, λ e. ((λ name. ap (has_name name) u.1 ∙ kept-name l.text u.0 name), verdict-mended (reason_at removed l.start) l.text))

    pub written : Written db n l
    unfolding mend_line mended_line is_dropped
    written = go (is_ignored l.text) refl (holds 58 l.text) refl (all_kept parts) refl
      where
        out : Bool → Bool → Bool → List ℕ
        out x y z = pick x (own_bytes db l.start) (pick y (pick z (own_bytes db l.start) (closed (names_of l.text ++ 58 ∷ kept_bytes parts))) [])

        told : (x y z : Bool) → is_ignored l.text ≡ x → holds 58 l.text ≡ y → all_kept parts ≡ z
            → (mend_line db (reason_at removed l.start) n l).text ≡ out x y z
        told true y z e f g = rw e
        told false true z e f g = rw (e, f, g)
        told false false z e f g = rw (e, f)

        go : (x : Bool) → is_ignored l.text ≡ x → (y : Bool) → holds 58 l.text ≡ y → (z : Bool) → all_kept parts ≡ z → Written db n l
        go true e y f z g = kept (rw e) (told true y z e f g) (refl, λ i. clash (sym e ∙ i))
        go false e true f true g =
            kept (rw (e, f)) (told false true true e f g) (refl, λ i. ((λ name. refl), verdict-kept (reason_at removed l.start) l.text f g))
        go false e true f false g =
            let u = names_of l.text ++ 58 ∷ kept_bytes parts in
            changed (closed_text u) (rw (e, f)) (told false true false e f g ∙ closed_is u)
            (closed_chunk (closed_text u) (mended_free (reason_at removed l.start) l.text free) (closed-ends u)) (changed-to e f)
        go false e false f z g = gone (rw (e, f)) (told false false z e f g)

  -- ---- all lines

  -- the empty line behind a last newline
  last_empty : (to : ℕ) → Parallel [] (lines_from to (join to []))
  unfolding join line_text later_lines blank comment
  last_empty to = (refl, refl)

  module _ (db : List ℕ) (n : ℕ) (l : Line) where
    closed_case : (ls : List Line) (c rest : List ℕ) → Chunk c l.text → own_bytes db l.start ≡ c → Written db n l
        → ((to : ℕ) → Parallel (left ls) (lines_from to (join to rest)))
        → (to : ℕ) → Parallel (left (l ∷ ls)) (lines_from to (join to ((mend_line db (reason_at removed l.start) n l).text ++ rest)))
    unfolding left
    closed_case ls c rest ch own (gone d e) ih to = rw (d, e) (ih to)
    closed_case ls c rest ch own (kept d e same) ih to =
        let w = ch to rest in
        rw (d, e, own, w.0, w.1) (same, ih (to + length c))
    closed_case ls c rest ch own (changed t d e k same) ih to =
        let w = k to rest in
        rw (d, e, w.0, w.1) (same, ih (to + length (t ++ 10 ∷ [])))

    open_case : (s : List ℕ) → l.text ≡ line_text (join l.start s) → Open s → own_bytes db l.start ≡ s → Written db n l
        → (to : ℕ) → Parallel (left (l ∷ [])) (lines_from to (join to ((mend_line db (reason_at removed l.start) n l).text ++ [])))
    unfolding left
    open_case s t o own (gone d e) to = rw (d, e) (last_empty to)
    open_case s t o own (kept d e same) to =
        let m : line_text (join to s) ≡ l.text = line_shift to l.start s ∙ sym t in
        rw (d, e, own, append-nil s, m, (o to 0).0) (same, tt)
    open_case s t o own (changed u d e k same) to =
        let w = k to [] in
        rw (d, e, w.0, w.1) (same, last_empty (to + length (u ++ 10 ∷ [])))

  mend_from : (db : List ℕ) {at : ℕ} {s : List ℕ} → LineByLine db at s → (n to : ℕ)
      → Parallel (left (lines_from at (join at s))) (lines_from to (join to (mend_lines db removed n (lines_from at (join at s))).text))
  unfolding mend_lines
  mend_from db (last at s o own) n to =
      rw (o at 0).0 (open_case db n (line_of at s) s refl o own (written db n (line_of at s) (line_free (join at s))) to)
  mend_from db (more at c t r chunk own rest) n to =
      let l = line_of at (c ++ r) in
      let ls = lines_from (at + length c) (join (at + length c) r) in
      let same : Chunk c l.text = λ i u. ((chunk i u).0 ∙ sym (chunk at r).0, (chunk i u).1) in
      rw (chunk at r).1
      (closed_case db n l ls c (mend_lines db removed (n + 1) ls).text same own (written db n l (line_free (join at (c ++ r))))
      (λ i. mend_from db rest (n + 1) i) to)

  pub mend_parallel : (db : List ℕ) → Parallel (left (lines_of db)) (lines_of (mend_lines db removed 0 (lines_of db)).text)
  unfolding lines_of text_at
  mend_parallel db = mend_from db (line-by-line db) 0 0
