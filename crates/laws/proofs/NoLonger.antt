-- The mended database is no longer than the original.
-- Assumes nothing.
use Prim.Native.Nat.{ℕ, suc, ◌+◌, ◌≤◌}
use mathlib.Core.Path.{◌≡◌, refl, ◌∙◌, ap, sym}
use mathlib.Core.Logic.{inl, inr}
use mathlib.Core.Bool.{Bool, true, false}
use mathlib.Core.List.{List, [], ◌∷◌, ◌++◌, append_assoc}
use native.Mathlib.Omega.{arith}
use lib.Dec.{eqb}
use lib.ListN.{length, length-append}
use Rattle.spec.specs.Choice.{pick, both}
use Rattle.laws.proofs.Tests.{clash}
use Rattle.spec.specs.Lists.{upto, past, holds}
use Rattle.spec.specs.Lines.{Text, end, byte, text_at, join, Line, line_text, later_lines, lines_from, is_ignored}
use Rattle.spec.specs.Fields.{names_of, reading}
use Rattle.laws.proofs.WholeLines.{Free}
use Rattle.laws.proofs.FieldTexts.{upto-colon, line_parts}
use Rattle.spec.specs.Repair.{
  lines_of,
  own_bytes,
  pieces,
  field_pieces,
  field_reason,
  Removed,
  reason_at,
  link_removals,
  Part,
  parts_from,
  parts_of,
  kept_bytes,
  all_kept,
  ends_in_backslash,
  closed,
  mended_line,
  mend_line,
  mend_lines,
  mended,
  flattened,
}
use Rattle.laws.proofs.Chunks.{Chunk, LineByLine, last, more, line_of, line-by-line}
use Rattle.laws.proofs.KeptFields.{Pieced, linked_by, pieces_pieced, pieces-flat, ends-past}

-- ---- a removed field with a colon has two bytes at least: an empty one is ignored

pub removed_long : (linked : Bool) (r : ℕ) (p f : List ℕ) → Free 58 f → p ≡ f ++ 58 ∷ [] → eqb (field_reason linked r (reading (upto 58 p))) 0 ≡ false
    → 2 ≤ length p
removed_long linked r p [] h e n =
    let u : upto 58 p ≡ [] = ap (upto 58) e ∙ upto-colon [] [] tt in
    clash (sym empty ∙ (rw u at n))
  where
    empty : eqb (field_reason linked r (reading [])) 0 ≡ true
    empty = unfold reading field_reason in refl
removed_long linked r p (b ∷ f) h e n = omega (arith, ap length e, length-append f (58 ∷ []))

kept-short : (linked : Bool) (r place : ℕ) (ps : List (List ℕ)) → length (kept_bytes (parts_from linked r place ps)) ≤ length (flattened ps)
unfolding kept_bytes parts_from flattened
kept-short linked r place [] = omega arith
kept-short linked r place (p ∷ ps) =
    go (eqb (field_reason linked r (reading (upto 58 p))) 0) (parts_from (linked_by linked p) r (place + length p) ps)
    (kept-short (linked_by linked p) r (place + length p) ps)
  where
    go : (x : Bool) (fs : List Part) → length (kept_bytes fs) ≤ length (flattened ps)
        → length (pick x (p ++ kept_bytes fs) (kept_bytes fs)) ≤ length (p ++ flattened ps)
    go true fs h = omega (arith, length-append p (kept_bytes fs), length-append p (flattened ps))
    go false fs h = omega (arith, length-append p (flattened ps))

-- the bytes that are added when a line is closed
abbrev added : List ℕ → ℕ
added l = 1 + pick (ends_in_backslash l) 1 0

added_two : (l : List ℕ) → added l ≤ 2
added_two l = go (ends_in_backslash l)
  where
    go : (x : Bool) → 1 + pick x 1 0 ≤ 2
    go true = omega arith
    go false = omega arith

kept_less : (linked : Bool) (r place : ℕ) (ps : List (List ℕ)) → Pieced ps → all_kept (parts_from linked r place ps) ≡ false
    → length (kept_bytes (parts_from linked r place ps)) + added (kept_bytes (parts_from linked r place ps)) ≤ length (flattened ps)
unfolding kept_bytes parts_from flattened all_kept
kept_less linked r place [] h n = clash n
kept_less linked r place (p ∷ ps) (inl h) n =
    go (eqb (field_reason linked r (reading (upto 58 p))) 0) refl (parts_from (linked_by linked p) r (place + length p) ps) n
    (kept-short (linked_by linked p) r (place + length p) ps) (kept_less (linked_by linked p) r (place + length p) ps h.1)
  where
    go : (x : Bool) → eqb (field_reason linked r (reading (upto 58 p))) 0 ≡ x → (fs : List Part) → both x (all_kept fs) ≡ false
        → length (kept_bytes fs) ≤ length (flattened ps)
        → (all_kept fs ≡ false → length (kept_bytes fs) + added (kept_bytes fs) ≤ length (flattened ps))
        → length (pick x (p ++ kept_bytes fs) (kept_bytes fs)) + added (pick x (p ++ kept_bytes fs) (kept_bytes fs)) ≤ length (p ++ flattened ps)
    go true e fs n s ih =
        let q : p ++ kept_bytes fs ≡ h.0.0 ++ 58 ∷ kept_bytes fs =
        ap (λ (x : List ℕ). x ++ kept_bytes fs) h.0.2 ∙ append_assoc h.0.0 (58 ∷ []) (kept_bytes fs) in
        let same : added (p ++ kept_bytes fs) ≡ added (kept_bytes fs) =
        ap (λ (x : Bool). 1 + pick x 1 0) (ap ends_in_backslash q ∙ ends-past h.0.0 (kept_bytes fs)) in
        omega (arith, ih n, same, length-append p (kept_bytes fs), length-append p (flattened ps))
    go false e fs n s ih =
        omega (arith, s, added_two (kept_bytes fs), removed_long linked r p h.0.0 h.0.1 h.0.2 e, length-append p (flattened ps))
kept_less linked r place (p ∷ []) (inr h) n = go (eqb (field_reason linked r (reading (upto 58 p))) 0) n
  where
    go : (x : Bool) → both x true ≡ false → length (pick x (p ++ []) []) + added (pick x (p ++ []) []) ≤ length (p ++ [])
    go true n = clash n
    go false n = unfold ends_in_backslash in omega (arith, h.1, length-append p [])
kept_less linked r place (p ∷ q ∷ ps) (inr h) n = let z : ◌≡◌ {A = ℕ} 0 1 = cc in absurd (omega arith)

closed-length : (u : List ℕ) → length (closed u) ≡ length u + added u
unfolding closed
closed-length u = go (ends_in_backslash u)
  where
    go : (x : Bool) → length (u ++ pick x (58 ∷ 10 ∷ []) (10 ∷ [])) ≡ length u + (1 + pick x 1 0)
    go true = length-append u (58 ∷ 10 ∷ [])
    go false = length-append u (10 ∷ [])

-- closed, the fields that are kept are at most two bytes longer than all of them
pub kept-closed-short : (linked : Bool) (r place : ℕ) (ps : List (List ℕ))
    → length (closed (kept_bytes (parts_from linked r place ps))) ≤ length (flattened ps) + 2
kept-closed-short linked r place ps =
    let k = kept_bytes (parts_from linked r place ps) in
    omega (arith, closed-length k, added_two k, kept-short linked r place ps)

-- a changed line, closed, is no longer than its joined text was
pub changed-short : (r : ℕ) (l : List ℕ) → holds 58 l ≡ true → all_kept (parts_of r l) ≡ false
    → length (closed (names_of l ++ 58 ∷ kept_bytes (parts_of r l))) ≤ length l
unfolding parts_of field_pieces
changed-short r l h n =
    let k = kept_bytes (parts_of r l) in
    let less : length k + added k ≤ length (flattened (pieces (past 58 l))) =
    kept_less false r _ (pieces (past 58 l)) (pieces_pieced (past 58 l)) n in
    let flat : length (flattened (pieces (past 58 l))) ≡ length (past 58 l) = ap length (pieces-flat (past 58 l)) in
    let same : added (names_of l ++ 58 ∷ k) ≡ added k = ap (λ (x : Bool). 1 + pick x 1 0) (ends-past (names_of l) k) in
    let whole : length l ≡ length (names_of l) + length (58 ∷ past 58 l) = ap length (line_parts l h) ∙ length-append (names_of l) (58 ∷ past 58 l) in
    omega (arith, closed-length (names_of l ++ 58 ∷ k), less, flat, same, whole, length-append (names_of l) (58 ∷ k))

-- ---- lines

text-byte : (b n : ℕ) (t : Text) (m : ℕ) → length (line_text t) + length (later_lines t) ≤ m
    → length (line_text (byte b n t)) + length (later_lines (byte b n t)) ≤ suc m
unfolding line_text later_lines
text-byte b n t m h = go (eqb b 10)
  where
    go : (x : Bool) → length (pick x [] (b ∷ line_text t)) + length (pick x (record { start = n; text = line_text t } ∷ later_lines t) (later_lines t)) ≤ suc m
    go true = omega arith
    go false = omega arith

-- a line's text, and a newline for each line behind it
pub text-short : (at : ℕ) (s : List ℕ) → length (line_text (join at s)) + length (later_lines (join at s)) ≤ length s
unfolding join
text-short at [] = unfold line_text later_lines in omega arith
text-short at (b ∷ []) = text-byte b (at + 1) end 0 (unfold line_text later_lines in omega arith)
text-short at (b ∷ c ∷ s) = go (both (eqb b 92) (eqb c 10)) (text-short (at + 1 + 1) s) (text-short (at + 1) (c ∷ s))
  where
    total : Text → ℕ
    total t = length (line_text t) + length (later_lines t)

    go : (x : Bool) → total (join (at + 1 + 1) s) ≤ length s → total (join (at + 1) (c ∷ s)) ≤ length (c ∷ s)
        → total (pick x (join (at + 1 + 1) s) (byte b (at + 1) (join (at + 1) (c ∷ s)))) ≤ length (b ∷ c ∷ s)
    go true h k = omega arith
    go false h k = text-byte b (at + 1) (join (at + 1) (c ∷ s)) (length (c ∷ s)) k

-- a closed line's text, and its newline
pub chunk_text : (c t : List ℕ) → Chunk c t → length t + 1 ≤ length c
chunk_text c t h = omega (arith, ap length (h 0 []).0, ap length (h 0 []).1, text-short 0 (c ++ []), length-append c [])

pub line-short : (db : List ℕ) (r n : ℕ) (l : Line) (m : ℕ) → length (own_bytes db l.start) ≤ m → length l.text ≤ m
    → length (mend_line db r n l).text ≤ m
unfolding mend_line mended_line
line-short db r n l m own text = go (is_ignored l.text) refl (holds 58 l.text) refl (all_kept (parts_of r l.text)) refl
  where
    go : (x : Bool) → is_ignored l.text ≡ x → (y : Bool) → holds 58 l.text ≡ y → (z : Bool) → all_kept (parts_of r l.text) ≡ z
        → length (mend_line db r n l).text ≤ m
    go true e y f z g = rw e own
    go false e true f true g = rw (e, f, g) own
    go false e true f false g = rw (e, f, g) (omega (arith, changed-short r l.text f g))
    go false e false f z g = rw (e, f) (omega arith)

module _ (removed : List Removed) (db : List ℕ) where
  abbrev first : ℕ → ℕ → List ℕ → List ℕ
  first n at s = (mend_line db (reason_at removed at) n (line_of at s)).text

  short-from : {at : ℕ} {s : List ℕ} → LineByLine db at s → (n : ℕ) → length (mend_lines db removed n (lines_from at (join at s))).text ≤ length s
  unfolding mend_lines
  short-from (last at s o own) n =
      let line = line-short db (reason_at removed at) n (line_of at s) (length s) (omega (arith, ap length own)) (omega (arith, text-short at s)) in
      rw (o at 0).0 (omega (arith, line, length-append (first n at s) []))
  short-from (more at c t r chunk own rest) n =
      let text : length (line_text (join at (c ++ r))) ≤ length c = omega (arith, ap length (chunk at r).0, chunk_text c t chunk) in
      let line = line-short db (reason_at removed at) n (line_of at (c ++ r)) (length c) (omega (arith, ap length own)) text in
      let later = (mend_lines db removed (n + 1) (lines_from (at + length c) (join (at + length c) r))).text in
      rw (chunk at r).1 (omega (arith, line, short-from rest (n + 1), length-append (first n at (c ++ r)) later, length-append c r))

pub mended-short : (db : List ℕ) → length (mended db).text ≤ length db
unfolding mended
mended-short db = whole (link_removals (lines_of db))
  where
    whole : (removed : List Removed) → length (mend_lines db removed 0 (lines_of db)).text ≤ length db
    whole removed = unfold lines_of text_at in short-from removed db (line-by-line db) 0
