-- The fields of a line as they are written, one by one: where each ends, and what is written for it.
-- Assumes nothing.
use Rattle.std.specs.Prelude.{Some, None}
use Prim.Native.Nat.{ℕ, ◌+◌, ◌≤◌, ◌<◌}
use mathlib.Core.Path.{◌≡◌, refl, ◌∙◌, ap, sym}
use mathlib.Core.Bool.{Bool, true, false}
use mathlib.Core.List.{List, [], ◌∷◌, ◌++◌, append_assoc, append-nil}
use mathlib.Core.Logic.{◌⊎◌, inl, inr}
use native.Mathlib.Omega.{arith}
use borrow.Author.Tests.{eqb-true, eq-eqb, ne_eqb}
use lib.Dec.{eqb}
use lib.ListN.{length, length-append}
use lib.Seq.{sets}
use Rattle.spec.specs.Choice.{pick, either}
use Rattle.spec.specs.Lists.{upto, past, holds}
use Rattle.spec.specs.Lines.{line_at}
use Rattle.spec.specs.Fields.{grow, split, reading}
use Rattle.spec.specs.Repair.{
  pieces,
  is_link,
  parts_from,
  kept_bytes,
  ends_in_backslash,
  closed,
  removal_record,
  part_records,
  flattened,
}
use Rattle.laws.proofs.FieldSteps.{split_nil}
use Rattle.laws.proofs.KeptFields.{Pieced, pieces_pieced, pieces-flat, ends-past}
use Rattle.laws.proofs.NoLonger.{kept-closed-short}
use Rattle.field_bounds.specs.Answers.{field_at, NamesPassed}
use Rattle.field_bounds.proofs.Pieces.{past-none}
use Rattle.field_bounds.proofs.WholeFields.{split-some, split-none, no_field}
use Rattle.field_bounds.proofs.LineBounds.{line_bound, field_bound}
use Rattle.mended_fields.specs.Parts.{Put, colon_if, piece_at, PartFound, record_if, records_from, written_if, kept_from}
use Rattle.mended_fields.proofs.Storing.{put_nothing}
use Rattle.std.specs.Prelude.{Some}

-- ---- the first piece of a text, by its next colon

abbrev first_piece : List ℕ → List ℕ
first_piece l = upto 58 l ++ colon_if (holds 58 l)

pieces_nil : pieces [] ≡ []
unfolding pieces
pieces_nil = refl

pieces_first : (b : ℕ) (l : List ℕ) → pieces (b ∷ l) ≡ first_piece (b ∷ l) ∷ pieces (past 58 (b ∷ l))
unfolding pieces upto past holds grow
pieces_first b [] = go (eqb b 58) refl
  where
    go : (x : Bool) → eqb b 58 ≡ x
        → pick x ((b ∷ []) ∷ pieces []) (grow b (pieces [])) ≡ (pick x [] (b ∷ []) ++ colon_if (either x false)) ∷ pieces (pick x [] [])
    go true e = rw (eqb-true b 58 e)
    go false e = refl
pieces_first b (c ∷ l) = go (eqb b 58) refl (pieces_first c l)
  where
    go : (x : Bool) → eqb b 58 ≡ x → pieces (c ∷ l) ≡ first_piece (c ∷ l) ∷ pieces (past 58 (c ∷ l))
        → pick x ((b ∷ []) ∷ pieces (c ∷ l)) (grow b (pieces (c ∷ l)))
        ≡ (pick x [] (b ∷ upto 58 (c ∷ l)) ++ colon_if (either x (holds 58 (c ∷ l)))) ∷ pieces (pick x (c ∷ l) (past 58 (c ∷ l)))
    go true e h = rw (eqb-true b 58 e)
    go false e h = rw h

-- its text is what stands before the colon
piece_text : (x : Bool) (l : List ℕ) → upto 58 (upto 58 l ++ colon_if x) ≡ upto 58 l
unfolding upto
piece_text true [] = refl
piece_text false [] = refl
piece_text x (b ∷ l) = go (eqb b 58) refl x (piece_text x l)
  where
    go : (y : Bool) → eqb b 58 ≡ y → (x : Bool) → upto 58 (upto 58 l ++ colon_if x) ≡ upto 58 l
        → upto 58 (pick y [] (b ∷ upto 58 l) ++ colon_if x) ≡ pick y [] (b ∷ upto 58 l)
    go true e true h = refl
    go true e false h = refl
    go false e x h = rw (e, h)

-- ---- the piece at a place

pub no_part : (s : List ℕ) (at : ℕ) → split (line_at s at) ≡ [] → pieces (line_at s at) ≡ []
no_part s at p = ap pieces (split-none _ p) ∙ pieces_nil

module _ (s : List ℕ) (at n next : ℕ) (e : split (line_at s at) ≡ field_at s at ∷ split (line_at s next)) (f : length (field_at s at) ≡ n) where
  pub part_fits : n ≤ length s
  part_fits = omega (arith, field_bound s at, f)

  some_piece : (l : List ℕ) → line_at s at ≡ l → pieces (line_at s at) ≡ piece_at s at ∷ pieces (past 58 (line_at s at))
  unfolding piece_at
  some_piece [] h = absurd (no_field _ _ _ e h)
  some_piece (b ∷ l) h = rw h (pieces_first b l)

  first_piece_lem : pieces (line_at s at) ≡ piece_at s at ∷ pieces (past 58 (line_at s at))
  first_piece_lem = some_piece (line_at s at) refl

  pub part_closed : (behind m : ℕ) → NamesPassed s at (Some (record { fields = behind; names = m }))
      → (pieces (line_at s at) ≡ piece_at s at ∷ pieces (line_at s behind)) × (length (piece_at s at) ≡ n + 1)
  part_closed behind m h = (first_piece_lem ∙ rw h.1, long)
    where
      long : length (piece_at s at) ≡ n + 1
      long = unfold piece_at in rw h.0 (omega (arith, length-append (field_at s at) (58 ∷ []), f))

  pub part_open : NamesPassed s at None → (pieces (line_at s at) ≡ piece_at s at ∷ pieces (line_at s next)) × (length (piece_at s at) ≡ n)
  part_open h = (first_piece_lem ∙ rw (past-none (line_at s at) h, rest), long)
    where
      long : length (piece_at s at) ≡ n
      long = unfold piece_at in rw h (omega (arith, length-append (field_at s at) [], f))

      rest : line_at s next ≡ []
      rest =
          let whole = split-some (line_at s at) (no_field _ _ _ e) in
          let later : split (past 58 (line_at s at)) ≡ split (line_at s next) = cc in
          split-none _ (sym later ∙ ap split (past-none (line_at s at) h) ∙ split_nil)

-- ---- the last byte of a text

ends_nil : ends_in_backslash [] ≡ false
unfolding ends_in_backslash
ends_nil = refl

pub ends-start : (l : List ℕ) → ends_in_backslash l ≡ ends_in_backslash (0 ∷ l)
unfolding ends_in_backslash
ends-start [] = refl
ends-start (b ∷ l) = refl

pub ends_on : (a b : ℕ) (l : List ℕ) → ends_in_backslash (a ∷ b ∷ l) ≡ ends_in_backslash (b ∷ l)
unfolding ends_in_backslash
ends_on a b l = refl

pub ends_last : (b : ℕ) → ends_in_backslash (b ∷ []) ≡ eqb b 92
unfolding ends_in_backslash
ends_last b = refl

-- ---- a kept field: its colon, or one because it would end in a backslash

module _ (s : List ℕ) (at : ℕ) where
  piece_length : length (piece_at s at) ≡ length (field_at s at) + length (colon_if (holds 58 (line_at s at)))
  unfolding piece_at
  piece_length = length-append (field_at s at) (colon_if (holds 58 (line_at s at)))

  pub has_colon : length (field_at s at) < length (piece_at s at) → holds 58 (line_at s at) ≡ true
  has_colon h = go (holds 58 (line_at s at)) piece_length
    where
      go : (x : Bool) → length (piece_at s at) ≡ length (field_at s at) + length (colon_if x) → x ≡ true
      go true e = refl
      go false e = absurd (omega arith)

  pub has_none : length (piece_at s at) ≤ length (field_at s at) → holds 58 (line_at s at) ≡ false
  has_none h = go (holds 58 (line_at s at)) piece_length
    where
      go : (x : Bool) → length (piece_at s at) ≡ length (field_at s at) + length (colon_if x) → x ≡ false
      go true e = absurd (omega arith)
      go false e = refl

  pub written_none : (reason : ℕ) → (reason ≡ 0 → ⊥) → written_if reason (piece_at s at) ≡ []
  unfolding written_if
  written_none reason n = rw (ne_eqb reason 0 n)

  pub written-some : (reason : ℕ) → reason ≡ 0 → written_if reason (piece_at s at)
      ≡ field_at s at ++ colon_if (either (holds 58 (line_at s at)) (ends_in_backslash (field_at s at)))
  unfolding written_if piece_at
  written-some reason e = rw (eq-eqb reason 0 e) (go (holds 58 (line_at s at)))
    where
      go : (x : Bool) → (field_at s at ++ colon_if x) ++ colon_if (ends_in_backslash (field_at s at ++ colon_if x))
          ≡ field_at s at ++ colon_if (either x (ends_in_backslash (field_at s at)))
      go true = rw (ends-past (field_at s at) [], ends_nil, append-nil (field_at s at ++ 58 ∷ []))
      go false = rw (append-nil (field_at s at))

-- ---- the fields one by one

-- a closed line begins with its names, or with a field that has a colon
pub closed-past : (f k : List ℕ) → closed (f ++ 58 ∷ k) ≡ f ++ 58 ∷ closed k
unfolding closed
closed-past f k = rw (ends-past f k) (append_assoc f (58 ∷ k) (pick (ends_in_backslash k) (58 ∷ 10 ∷ []) (10 ∷ [])))

closed_open : (p : List ℕ) → closed p ≡ (p ++ colon_if (ends_in_backslash p)) ++ closed []
unfolding closed ends_in_backslash
closed_open p = go (ends_in_backslash p)
  where
    go : (x : Bool) → p ++ pick x (58 ∷ 10 ∷ []) (10 ∷ []) ≡ (p ++ colon_if x) ++ 10 ∷ []
    go true = sym (append_assoc p (58 ∷ []) (10 ∷ []))
    go false = rw (append-nil p)

closed_piece : (p k : List ℕ) → ((f : List ℕ) × (p ≡ f ++ 58 ∷ [])) ⊎ (k ≡ []) → closed (p ++ k) ≡ (p ++ colon_if (ends_in_backslash p)) ++ closed k
closed_piece p k (inl h) = rw (h.1, ends-past h.0 [], ends_nil, append-nil (h.0 ++ 58 ∷ []), append_assoc h.0 (58 ∷ []) k, closed-past h.0 k)
    (sym (append_assoc h.0 (58 ∷ []) (closed k)))
closed_piece p k (inr h) = rw (h, append-nil p) (closed_open p)

module _ (line place reason count : ℕ) (out : List ℕ) (at : ℕ) where
  pub record_none : reason ≡ 0 → Put (record_if line place reason count) out at out 0
  unfolding record_if
  record_none e = rw (eq-eqb reason 0 e) (put_nothing out at)

  module _ (out' : List ℕ) where
    pub record_some : (reason ≡ 0 → ⊥) → out' ≡ sets out at (removal_record line place reason count) → Put (record_if line place reason count) out at out' 16
    unfolding record_if
    record_some n e = rw (ne_eqb reason 0 n) (record { count = refl; stored = e })

    pub record_short : (n : ℕ) → Put (record_if line place reason count) out at out' n → n ≤ 16
    unfolding record_if
    record_short n p = go (eqb reason 0) p.count
      where
        go : (x : Bool) → n ≡ length (pick x [] (removal_record line place reason count)) → n ≤ 16
        go true e = omega arith
        go false e = omega arith

-- places do not matter to what is kept
pub kept_anywhere : (linked : Bool) (reason place place' : ℕ) (ps : List (List ℕ))
    → kept_bytes (parts_from linked reason place ps) ≡ kept_bytes (parts_from linked reason place' ps)
unfolding kept_bytes parts_from
kept_anywhere linked reason place place' [] = refl
kept_anywhere linked reason place place' (p ∷ ps) =
    rw (kept_anywhere (either linked (is_link (reading (upto 58 p)))) reason (place + length p) (place' + length p) ps)

module _ (s : List ℕ) (reason : ℕ) (linked : Bool) (at : ℕ) where
  module _ (e : pieces (line_at s at) ≡ []) where
    pub records-none : (line place : ℕ) → records_from s line reason linked place at ≡ []
    unfolding records_from parts_from part_records flattened
    records-none line place = rw e

    pub kept-none : kept_from s reason linked at ≡ 10 ∷ []
    unfolding kept_from parts_from kept_bytes closed ends_in_backslash
    kept-none = rw e

  pub kept_bound : length (kept_from s reason linked at) ≤ length s + 2
  unfolding kept_from
  kept_bound = omega (arith, kept-closed-short linked reason 0 (pieces (line_at s at)), ap length (pieces-flat (line_at s at)), line_bound s at)

  module _ (why : ℕ) (link : Bool) (n next : ℕ) (p : PartFound s at linked reason (Some (record { reason = why; linked = link; count = n; next = next }))) where
    piece_reading : upto 58 (piece_at s at) ≡ field_at s at
    unfolding piece_at
    piece_reading = piece_text (holds 58 (line_at s at)) (line_at s at)

    parts_next : (place : ℕ) → parts_from linked reason place (pieces (line_at s at))
        ≡ record { place = place; bytes = piece_at s at; reason = why } ∷ parts_from link reason (place + n) (pieces (line_at s next))
    unfolding parts_from
    parts_next place = rw (p.0, piece_reading, p.1, p.2, p.3)

    pub records-next : (line place : ℕ)
        → records_from s line reason linked place at ≡ record_if line place why n ++ records_from s line reason link (place + n) next
    unfolding records_from record_if part_records flattened
    records-next line place = rw (parts_next place, p.3) (go (eqb why 0))
      where
        rest : List (List ℕ)
        rest = part_records line (parts_from link reason (place + n) (pieces (line_at s next)))

        go : (x : Bool) → flattened (pick x rest (removal_record line place why n ∷ rest)) ≡ pick x [] (removal_record line place why n) ++ flattened rest
        go true = refl
        go false = refl

    pub kept_next : kept_from s reason linked at ≡ written_if why (piece_at s at) ++ kept_from s reason link next
    unfolding kept_from written_if kept_bytes
    kept_next = rw (parts_next 0, kept_anywhere link reason (0 + n) 0 (pieces (line_at s next))) (go (eqb why 0))
      where
        rest : List ℕ
        rest = kept_bytes (parts_from link reason 0 (pieces (line_at s next)))

        last : Pieced (piece_at s at ∷ pieces (line_at s next)) → ((f : List ℕ) × (piece_at s at ≡ f ++ 58 ∷ [])) ⊎ (rest ≡ [])
        last (inl h) = inl (h.0.0, h.0.2)
        last (inr h) = inr (ap (λ (ps : List (List ℕ)). kept_bytes (parts_from link reason 0 ps)) h.2 ∙ unfold parts_from kept_bytes in refl)

        go : (x : Bool) → closed (pick x (piece_at s at ++ rest) rest)
            ≡ pick x (piece_at s at ++ colon_if (ends_in_backslash (piece_at s at))) [] ++ closed rest
        go true = closed_piece (piece_at s at) rest (last (rw p.0 at (pieces_pieced (line_at s at))))
        go false = refl

    pub line-next : length (line_at s at) ≡ n + length (line_at s next)
    unfolding flattened
    line-next =
        omega (
          arith,
          ap length (pieces-flat (line_at s at)),
          ap (λ (ps : List (List ℕ)). length (flattened ps)) p.0,
          length-append (piece_at s at) (flattened (pieces (line_at s next))),
          ap length (pieces-flat (line_at s next)),
          p.3,
        )
