-- Fields taken into the tables: none, one by what it is read as, and one part after another.
-- Assumes nothing.
use Prim.Native.Nat.{ℕ, ◌+◌, ◌≤◌, ◌<◌}
use mathlib.Core.Path.{refl, ◌≡◌}
use mathlib.Core.Bool.{false}
use mathlib.Core.List.{List, [], ◌∷◌, ◌++◌, append-nil, append_assoc}
use lib.ListN.{length, get_or, take}
use lib.Seq.{get_or-take}
use Rattle.spec.specs.Lines.{line_at}
use Rattle.spec.specs.Fields.{Content, cancel, capability, reading, split, fields_of, content_kind, content_value}
use Rattle.spec.specs.Chain.{Field, placed}
use Rattle.spec.specs.Lookup.{matches}
use Rattle.spec.specs.Files.{file_at}
use Rattle.spec.specs.declared.Location.{Location}
use Rattle.laws.proofs.FileLines.{line_of_part}
use Rattle.field_bounds.specs.Answers.{field_at}
use Rattle.fields.specs.Readings.{Reads}
use Rattle.fields.specs.declared.FieldRead.{FieldRead}
use Rattle.fields.specs.declared.FieldRead.TheVariants.{Malformed, Ignored, Link, Cancel, Flag, Number, String}
use Rattle.chain.proofs.JoinedFields.{fields_from, from_next}
use Rattle.capability_table.specs.Table.{marked}
use Rattle.capability_table.specs.Answers.{kept_marks, kept_values}
use Rattle.capability_table.proofs.Answering.{other-answers, cancel-answers, kept-answers}
use Rattle.batch.specs.Answers.{Notes}
use Rattle.batch.specs.declared.Tables.{Tables}

-- ---- one field

module _ (place file : ℕ) (text : List ℕ) (t : Tables) where
  abbrev here : Field
  here = record { place = place; file = file; text = text }

  noted_other : ((id : List ℕ) (k : ℕ) → matches id k (reading text) ≡ false) → Notes (here ∷ []) t t
  noted_other h fs w = other-answers fs here t.marks t.values w h

  pub noted_cancel : (a b : ℕ) (m' : List ℕ) → reading text ≡ capability a b cancel → m' ≡ marked t.marks a b 0
      → Notes (here ∷ []) t (record { marks = m'; values = t.values })
  noted_cancel a b m' e s = rw s (λ fs w. cancel-answers fs here t.marks t.values w a b e)

  pub noted_kept : (a b : ℕ) (c : Content) (m' v' : List ℕ) → reading text ≡ capability a b c → 1 ≤ content_kind c
      → m' ≡ kept_marks t.marks a b (content_kind c) → v' ≡ kept_values t.marks t.values a b (content_kind c) (content_value c)
      → Notes (here ∷ []) t (record { marks = m'; values = v' })
  noted_kept a b c m' v' e some s u = rw (s, u) (λ fs w. kept-answers fs here t.marks t.values w a b c e some)

-- malformed, ignored, or a link: the answers that the arm `_` takes together, by their tags
module _ (s : List ℕ) (at place file : ℕ) (t : Tables) where
  pub noted_none : (read : FieldRead) → Reads s at read
      → ((a b : ℕ) → read ≡ Cancel a b → ⊥) → ((a b : ℕ) → read ≡ Flag a b → ⊥)
      → ((a b n : ℕ) → read ≡ Number a b n → ⊥) → ((a b text n : ℕ) → read ≡ String a b text n → ⊥)
      → Notes (record { place = place; file = file; text = field_at s at } ∷ []) t t
  unfolding matches
  noted_none Malformed h o0 o1 o2 o3 = noted_other place file (field_at s at) t (λ id k. rw h)
  noted_none Ignored h o0 o1 o2 o3 = noted_other place file (field_at s at) t (λ id k. rw h)
  noted_none (Link name) h o0 o1 o2 o3 = noted_other place file (field_at s at) t (λ id k. rw h.0)
  noted_none (Cancel a b) h o0 o1 o2 o3 = absurd (o0 a b refl)
  noted_none (Flag a b) h o0 o1 o2 o3 = absurd (o1 a b refl)
  noted_none (Number a b n) h o0 o1 o2 o3 = absurd (o2 a b n refl)
  noted_none (String a b text n) h o0 o1 o2 o3 = absurd (o3 a b text n refl)

-- ---- one part after another

pub notes_nothing : (t : Tables) → Notes [] t t
notes_nothing t fs w = rw (append-nil fs) w

module _ (gs hs : List Field) (t t₁ t₂ : Tables) where
  notes_then : Notes gs t t₁ → Notes hs t₁ t₂ → Notes (gs ++ hs) t t₂
  notes_then p q fs w = rw (← append_assoc fs gs hs) (q (fs ++ gs) (p fs w))

module _ (t t₁ t₂ : Tables) where
  -- the fields of a part from a place on: one, and those from the next place on
  pub fields_on : (s : List ℕ) (at next place file : ℕ) → split (line_at s at) ≡ field_at s at ∷ split (line_at s next)
      → Notes (record { place = place; file = file; text = field_at s at } ∷ []) t t₁ → Notes (placed place file (split (line_at s next))) t₁ t₂
      → Notes (placed place file (split (line_at s at))) t t₂
  unfolding placed
  fields_on s at next place file e p q =
      rw e (notes_then (record { place = place; file = file; text = field_at s at } ∷ []) (placed place file (split (line_at s next))) t t₁ t₂ p q)

  -- the lines of a chain from one on: that, read in the part of its file, and those from the next on
  pub lines_on : (db : List (List ℕ)) (lines : List Location) (n i : ℕ) (d : Location) (part : List ℕ) → i < n → i < length lines
      → part ≡ file_at db (get_or (take n lines) i d).file
      → Notes (placed i (get_or (take n lines) i d).file (fields_of (line_at part (get_or (take n lines) i d).at))) t t₁
      → Notes (fields_from db lines n (i + 1)) t₁ t₂ → Notes (fields_from db lines n i) t t₂
  lines_on db lines n i d part h k e p q =
      let same = get_or-take n lines i d h in
      let here = placed i (get_or lines i d).file (fields_of (line_at part (get_or lines i d).at)) in
      rw (from_next db lines n d i h k, line_of_part db (get_or lines i d) part (rw same at e))
      (notes_then here (fields_from db lines n (i + 1)) t t₁ t₂ (rw same at p) q)
