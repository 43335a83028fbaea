-- The first link of a line's fields, field by field.
-- Assumes nothing.
use Rattle.std.specs.Prelude.{Some, None}
use Prim.Native.Nat.{ℕ, ◌+◌}
use mathlib.Core.Path.{◌≡◌, refl, ◌∙◌, ap, sym}
use mathlib.Core.Bool.{Bool, true, false, not}
use mathlib.Core.List.{List, [], ◌∷◌}
use native.Mathlib.Omega.{arith}
use borrow.Author.Tests.{eq-eqb, ne_eqb}
use lib.Dec.{eqb}
use lib.ListN.{length}
use Rattle.spec.specs.Choice.{either, between}
use Rattle.spec.specs.Lists.{upto, past, holds}
use Rattle.spec.specs.Lines.{text_at, line_text, line_at, first_name, is_ignored}
use Rattle.spec.specs.Refusals.{name_byte, name_bytes, good_name}
use Rattle.spec.specs.Fields.{split, fields_of, Reading, malformed, ignored, link, capability, reading, Verdict, no_link, link_to}
use Rattle.spec.specs.Repair.{pieces, field_pieces, is_link, first_link, link_of, line_link}
use Rattle.laws.proofs.Tests.{clash, both_true, not_is_true}
use Rattle.laws.proofs.KeptFields.{cut_texts, split_pieced, pieces_pieced, pieces-flat}
use Rattle.field_bounds.proofs.Parts.{part, part_at, part_fields}
use Rattle.field_bounds.proofs.Pieces.{no_fields}
use Rattle.laws.proofs.Judging.{reading-good}
use Rattle.field_bounds.specs.Answers.{field_at, NamesPassed}
use Rattle.fields.specs.Readings.{Reads}
use Rattle.fields.specs.declared.FieldRead.{FieldRead}
use Rattle.fields.specs.declared.FieldRead.TheVariants.{Malformed, Ignored, Link, Cancel, Flag, Number, String}
use Rattle.link_targets.specs.Targets.{name_at}
use Rattle.link_list.specs.Listing.{link_in, FirstLinked, Linked}

-- ---- a link's name has no bar

byte_no_bar : (b : ℕ) → name_byte b ≡ true → b ≡ 124 → ⊥
unfolding name_byte
byte_no_bar b e f =
    let w = both_true (between 32 126 b) (not (either (eqb b 124) (either (eqb b 58) (eqb b 92)))) e in
    let bar : either (eqb b 124) (either (eqb b 58) (eqb b 92)) ≡ true = rw (eq-eqb b 124 f) in
    clash (sym bar ∙ not_is_true _ w.1)

no_bar : (n : List ℕ) → name_bytes n ≡ true → upto 124 n ≡ n
unfolding name_bytes upto
no_bar [] e = refl
no_bar (b ∷ n) e =
    let w = both_true (name_byte b) (name_bytes n) e in
    rw (ne_eqb b 124 (byte_no_bar b w.0)) (ap (λ (l : List ℕ). b ∷ l) (no_bar n w.1))

good_no_bar : (n : List ℕ) → good_name n ≡ true → upto 124 n ≡ n
unfolding good_name
good_no_bar n e = no_bar n (both_true (between 1 64 (length n)) (name_bytes n) e).1

name-cut : (db : List ℕ) (p : ℕ) → name_at db p ≡ upto 124 (field_at db p)
unfolding name_at first_name line_at
name-cut db p = refl

link_named : (db : List ℕ) (at p : ℕ) → reading (field_at db at) ≡ link (field_at db p) → reading (field_at db at) ≡ link (name_at db p)
link_named db at p e = e ∙ ap link (sym (name-cut db p ∙ good_no_bar (field_at db p) (reading-good (field_at db at) (field_at db p) e)))

-- ---- any other answer is of a field that is no link

pub not_link : (s : List ℕ) (at : ℕ) (r : FieldRead) → Reads s at r → ((name : ℕ) → r ≡ Link name → ⊥) → is_link (reading (field_at s at))
    ≡ false
unfolding is_link
not_link s at Malformed h t = rw h
not_link s at Ignored h t = rw h
not_link s at (Link name) h t = absurd (t name refl)
not_link s at (Cancel a b) h t = rw h
not_link s at (Flag a b) h t = rw h
not_link s at (Number a b v) h t = rw h
not_link s at (String a b text n) h t = rw h.1

-- ---- field by field

passes_by : (r : Reading) (v : Verdict) → is_link r ≡ false → first_link r v ≡ v
unfolding is_link first_link
passes_by malformed v e = refl
passes_by ignored v e = refl
passes_by (link n) v e = clash e
passes_by (capability a b c) v e = refl

module _ (db : List ℕ) (at : ℕ) (fs : List (List ℕ)) (first : split (line_at db at) ≡ field_at db at ∷ fs) where
  pub in_here : (p : ℕ) → reading (field_at db at) ≡ link (field_at db p) → link_in (split (line_at db at)) ≡ link_to (name_at db p)
  unfolding link_in first_link
  in_here p e = rw (first, link_named db at p e)

  pub in_on : is_link (reading (field_at db at)) ≡ false → link_in (split (line_at db at)) ≡ link_in fs
  unfolding link_in
  in_on n = rw first (passes_by (reading (field_at db at)) (link_in fs) n)

pub in_none : (fs : List (List ℕ)) → fs ≡ [] → link_in fs ≡ no_link
unfolding link_in
in_none fs e = rw e

-- ---- the fields as they are written, and as they are read

cut-link : (fs : List (List ℕ)) → link_of fs ≡ link_in (cut_texts fs)
unfolding link_of link_in cut_texts
cut-link [] = refl
cut-link (f ∷ fs) = rw (cut-link fs)

pieces-link : (l : List ℕ) → link_of (pieces l) ≡ link_in (split l)
pieces-link l = cut-link (pieces l) ∙ ap link_in (sym (split_pieced (pieces l) (pieces_pieced l)) ∙ ap split (pieces-flat l))

-- ---- a line

pub ignored-line : (l : List ℕ) → is_ignored l ≡ true → line_link l ≡ no_link
unfolding line_link
ignored-line l e = rw e

read_line : (l : List ℕ) → is_ignored l ≡ false → line_link l ≡ link_in (fields_of l)
unfolding line_link field_pieces fields_of
read_line l e = rw e (pieces-link (past 58 l))

pub dropped_line : (l : List ℕ) → is_ignored l ≡ false → holds 58 l ≡ false → line_link l ≡ no_link
dropped_line l e h = read_line l e ∙ in_none (fields_of l) (no_fields l h)

pub linked-line : (l n : List ℕ) → line_link l ≡ link_to n → is_ignored l ≡ false
linked-line l n e = go (is_ignored l) refl
  where
    none : no_link ≡ link_to n → ⊥
    none e = let z : ◌≡◌ {A = ℕ} 0 1 = cc in omega arith

    go : (x : Bool) → is_ignored l ≡ x → is_ignored l ≡ false
    go true x = absurd (none (sym (ignored-line l x) ∙ e))
    go false x = x

-- ---- what the code knows of a line at a place

pub seen : (db : List ℕ) (at : ℕ) (r x : Bool) → r ≡ is_ignored (line_text (text_at db at)) → r ≡ x → is_ignored (line_at db at) ≡ x
unfolding line_at
seen db at r x e f = sym e ∙ f

-- ---- a line by the part of the database that starts after its names

module _ (db : List ℕ) (at a n : ℕ) (p : NamesPassed db at (Some (record { fields = a; names = n }))) (e : is_ignored (line_at db at) ≡ false) where
  line-fields : line_link (line_at db at) ≡ link_in (split (line_at (part db a) 0))
  line-fields = read_line (line_at db at) e ∙ ap link_in (sym (part_fields db at a n p))

  pub part_linked : (name : ℕ) → FirstLinked (part db a) (Some name) → Linked db (line_link (line_at db at)) (Some (a + name))
  unfolding name_at line_at
  part_linked name h = line-fields ∙ h.0 ∙ ap (λ (l : List ℕ). link_to (first_name l)) (part_at db at a n p name)

  pub part_none : FirstLinked (part db a) None → Linked db (line_link (line_at db at)) None
  part_none h = line-fields ∙ h
