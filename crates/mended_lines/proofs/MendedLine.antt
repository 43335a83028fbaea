-- A line and what Repair gives for it: its own bytes; its names and the fields that are kept; its records.
-- Assumes nothing.
use Rattle.std.specs.Prelude.{Some, None}
use Prim.Native.Nat.{ℕ, ◌+◌, ◌*◌, ◌-◌, ◌/◌, ◌≤◌, ◌<◌}
use mathlib.Core.Path.{◌≡◌, refl, ◌∙◌, ap, sym}
use mathlib.Core.Bool.{Bool, true, false}
use mathlib.Core.List.{List, [], ◌∷◌, ◌++◌, append_assoc}
use native.Mathlib.Omega.{arith}
use native.Mathlib.Nat.{add-zero}
use borrow.Author.Tests.{eq-eqb, ne_eqb}
use lib.Dec.{eqb}
use lib.ListN.{length, take, drop, set, length-append, length-drop}
use lib.Seq.{sets, take_all, length-take-le}
use Rattle.spec.specs.Choice.{pick, both, either}
use Rattle.spec.specs.Lists.{upto, holds}
use Rattle.spec.specs.Lines.{text_at, Line, line_text, line_at, is_ignored, extent}
use Rattle.spec.specs.Fields.{names_of}
use Rattle.spec.specs.Repair.{
  own_bytes,
  pieces,
  field_pieces,
  Part,
  parts_from,
  parts_of,
  kept_bytes,
  all_kept,
  closed,
  mended_line,
  removal_record,
  part_records,
  mend_line,
  flattened,
}
use Rattle.laws.proofs.Tests.{clash}
use Rattle.laws.proofs.Extents.{extent-inside}
use Rattle.field_bounds.specs.Answers.{field_at, NamesPassed}
use Rattle.field_bounds.proofs.Parts.{part, part_is, part_at}
use Rattle.field_bounds.proofs.LineBounds.{field_bound}
use Rattle.mended_fields.specs.Parts.{Put, records_from, kept_from}
use Rattle.mended_fields.proofs.Storing.{put_then}
use Rattle.mended_fields.proofs.WrittenPieces.{closed-past, kept_anywhere}
use Rattle.mended_lines.specs.Lines.{OwnEnd, changed_line, LineMended}

-- ---- its own bytes

module _ (db : List ℕ) (at : ℕ) (inside : at ≤ length db) where
  pub own_newline : extent db at < length db → OwnEnd db at (extent db at + 1)
  unfolding own_bytes
  own_newline h = let i = extent-inside db at inside in (omega arith, omega arith, refl)

  pub own_last : length db ≤ extent db at → OwnEnd db at (extent db at)
  unfolding own_bytes
  own_last h =
      let i = extent-inside db at inside in
      let l = length-drop at db in
      let all : take (extent db at - at) (drop at db) ≡ drop at db = take_all (extent db at - at) (drop at db) (omega arith) in
      let more : take (extent db at + 1 - at) (drop at db) ≡ drop at db = take_all (extent db at + 1 - at) (drop at db) (omega arith) in
      (i.0, i.1, all ∙ sym more)

  pub put_own : (r : ℕ) → OwnEnd db at r → (out : List ℕ) (to : ℕ) (out' : List ℕ) → out' ≡ sets out to (take (r - at) (drop at db))
      → Put (own_bytes db at) out to out' (r - at)
  put_own r e out to out' s =
      let fits : r - at ≤ length (drop at db) = omega (arith, length-drop at db, e.1) in
      record { count = sym (length-take-le (r - at) (drop at db) fits) ∙ ap length e.2; stored = s ∙ ap (sets out to) e.2 }

-- ---- a line without a colon

upto-none : (l : List ℕ) → holds 58 l ≡ false → upto 58 l ≡ l
unfolding holds upto
upto-none [] h = refl
upto-none (b ∷ l) h = go (eqb b 58) h (upto-none l)
  where
    go : (x : Bool) → either x (holds 58 l) ≡ false → (holds 58 l ≡ false → upto 58 l ≡ l) → pick x [] (b ∷ upto 58 l) ≡ b ∷ l
    go true q ih = clash q
    go false q ih = rw (ih q)

pub field_nil : (l : List ℕ) → l ≡ [] → 0 ≡ length (upto 58 l)
unfolding upto
field_nil l e = rw e

-- ---- its fields, by the part of the database that starts after its names

pub part_short : (db : List ℕ) (a : ℕ) → length (part db a) ≤ length db
part_short db a = omega (arith, ap length (part_is db a), length-drop a db)

module _ (db : List ℕ) (at a n : ℕ) (p : NamesPassed db at (Some (record { fields = a; names = n }))) where
  part_pieces : pieces (line_at (part db a) 0) ≡ field_pieces (line_at db at)
  unfolding field_pieces
  part_pieces = ap pieces (part_at db at a n p 0 ∙ ap (line_at db) (add-zero a) ∙ sym p.1)

  pub names-short : n ≤ length db
  unfolding names_of
  names-short = omega (arith, p.2, field_bound db at)

  changed_is : (reason : ℕ) → changed_line (line_at db at) reason ≡ (field_at db at ++ 58 ∷ []) ++ kept_from (part db a) reason false 0
  unfolding kept_from parts_of names_of
  changed_is reason =
      let k = kept_bytes (parts_from false reason 0 (field_pieces (line_at db at))) in
      rw (part_pieces, kept_anywhere false reason (length (field_at db at) + 1) 0 (field_pieces (line_at db at)), closed-past (field_at db at) k)
      (sym (append_assoc (field_at db at) (58 ∷ []) (closed k)))

  pub put-changed : (reason : ℕ) (out : List ℕ) (to : ℕ) (out₁ out₂ : List ℕ) → out₁ ≡ sets out to (field_at db at) → out₂ ≡ set out₁ (to + n) 58
      → (out₃ : List ℕ) (k : ℕ) → Put (kept_from (part db a) reason false 0) out₂ (to + (n + 1)) out₃ k
      → Put (changed_line (line_at db at) reason) out to out₃ (n + 1 + k)
  unfolding names_of
  put-changed reason out to out₁ out₂ s₁ s₂ out₃ k q =
      let names : Put (field_at db at) out to out₁ n = record { count = sym p.2; stored = s₁ } in
      let colon : Put (58 ∷ []) out₁ (to + n) out₂ 1 = record { count = refl; stored = s₂ } in
      rw (changed_is reason) (put_then _ _ _ _ _ _ _ _ (put_then _ _ _ _ _ _ _ _ names colon) q)

  pub records_are : (line reason : ℕ) → records_from (part db a) line reason false (n + 1) 0 ≡ flattened (part_records line (parts_of reason (line_at db at)))
  unfolding records_from parts_of
  records_are line reason = rw (part_pieces, p.2)

-- ---- its records

pub records-length : (line : ℕ) (fs : List Part) → length (flattened (part_records line fs)) ≡ 16 * length (part_records line fs)
unfolding part_records flattened
records-length line [] = refl
records-length line (f ∷ fs) = go (eqb f.reason 0) (removal_record line f.place f.reason (length f.bytes)) refl (records-length line fs)
  where
    rest : List (List ℕ)
    rest = part_records line fs

    go : (x : Bool) (r : List ℕ) → length r ≡ 16 → length (flattened rest) ≡ 16 * length rest
        → length (flattened (pick x rest (r ∷ rest))) ≡ 16 * length (pick x rest (r ∷ rest))
    go true r e h = h
    go false r e h = omega (arith, length-append r (flattened rest))

all-kept : (line : ℕ) (fs : List Part) → all_kept fs ≡ eqb (length (part_records line fs)) 0
unfolding all_kept part_records
all-kept line [] = refl
all-kept line (f ∷ fs) = go (eqb f.reason 0) (removal_record line f.place f.reason (length f.bytes)) (all-kept line fs)
  where
    rest : List (List ℕ)
    rest = part_records line fs

    go : (x : Bool) (r : List ℕ) → all_kept fs ≡ eqb (length rest) 0 → both x (all_kept fs) ≡ eqb (length (pick x rest (r ∷ rest))) 0
    go true r h = h
    go false r h = sym (ne_eqb (length (r ∷ rest)) 0 (λ e. omega arith))

-- ---- what is given for it

pub ignored-at : (db : List ℕ) (at : ℕ) (ignored x : Bool) → ignored ≡ is_ignored (line_text (text_at db at)) → ignored ≡ x → is_ignored (line_at db at) ≡ x
unfolding line_at
ignored-at db at ignored x e f = sym e ∙ f

module _ (db : List ℕ) (at reason line : ℕ) where
  abbrev here : Line
  here = record { start = at; text = line_at db at }

  abbrev fields : List Part
  fields = parts_of reason (line_at db at)

  module _ (text : List ℕ) (to : ℕ) (records : List ℕ) (from : ℕ) where
    pub gives_ignored : is_ignored (line_at db at) ≡ true → (text' : List ℕ) (n : ℕ) → Put (own_bytes db at) text to text' n
        → LineMended (mend_line db reason line here) text to text' records from records (record { bytes = n; records = 0 })
    unfolding mend_line flattened
    gives_ignored e text' n p = rw e (p.count, refl, p.stored, refl)

    module _ (e : is_ignored (line_at db at) ≡ false) where
      pub gives_record : NamesPassed db at None → (k : ℕ) → k ≡ length (field_at db at) → (records' : List ℕ)
          → records' ≡ sets records from (removal_record line 0 1 k)
          → LineMended (mend_line db reason line here) text to text records from records' (record { bytes = 0; records = 1 })
      unfolding mend_line flattened
      gives_record h k f records' s =
          let whole : k ≡ length (line_at db at) = f ∙ ap length (upto-none (line_at db at) h) in
          rw (e, h, ← whole) (refl, refl, refl, s)

      module _ (a n : ℕ) (p : NamesPassed db at (Some (record { fields = a; names = n }))) (records' : List ℕ) (removed : ℕ)
          (q : Put (records_from (part db a) line reason false (n + 1) 0) records from records' removed) (text' : List ℕ) (m : ℕ) where
        count : removed ≡ 16 * length (part_records line fields)
        count = q.count ∙ ap length (records_are db at a n p line reason) ∙ records-length line fields

        pub gives_own : removed ≡ 0 → Put (own_bytes db at) text to text' m
            → LineMended (mend_line db reason line here) text to text' records from records' (record { bytes = m; records = 0 })
        unfolding mend_line mended_line
        gives_own z w =
            let none : 0 ≡ length (part_records line fields) = omega (arith, count) in
            let kept : all_kept fields ≡ true = all-kept line fields ∙ eq-eqb (length (part_records line fields)) 0 (sym none) in
            rw (e, p.0, kept) (w.count, none, w.stored, q.stored ∙ ap (sets records from) (records_are db at a n p line reason))

        pub gives_changed : (removed ≡ 0 → ⊥) → Put (changed_line (line_at db at) reason) text to text' m
            → LineMended (mend_line db reason line here) text to text' records from records' (record { bytes = m; records = removed / 16 })
        unfolding mend_line mended_line
        gives_changed z w =
            let some : removed / 16 ≡ length (part_records line fields) = omega (arith, count) in
            let kept : all_kept fields ≡ false = all-kept line fields ∙ ne_eqb (length (part_records line fields)) 0 (λ f. z (omega (arith, count))) in
            rw (e, p.0, kept) (w.count, some, w.stored, q.stored ∙ ap (sets records from) (records_are db at a n p line reason))
