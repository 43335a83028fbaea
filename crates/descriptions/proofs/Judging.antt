-- A line's fields judged one by one: what was passed, its size, and what is left.
-- Assumes nothing.
use Prim.Native.Nat.{ℕ, ◌+◌, ◌≤◌}
use mathlib.Core.Path.{◌≡◌, refl, ◌∙◌, ap}
use mathlib.Core.Bool.{Bool, true, false}
use mathlib.Core.List.{List, [], ◌∷◌}
use native.Mathlib.Omega.{arith}
use lib.ListN.{length}
use Rattle.spec.specs.Choice.{pick}
use Rattle.spec.specs.Lines.{line_at}
use Rattle.spec.specs.Fields.{malformed, link, reading, split, size, is_ignored_field, all_ignored, judge}
use Rattle.laws.proofs.Judging.{judge_nil, judge-malformed, judge-ignored, judge_entry, judge-link, judge-after, ignored_not, ignored_nil}
use Rattle.field_bounds.specs.Answers.{field_at}
use Rattle.field_bounds.proofs.LineBounds.{size_bound}
use Rattle.fields.specs.Readings.{Reads}
use Rattle.fields.specs.declared.FieldRead.{FieldRead}
use Rattle.fields.specs.declared.FieldRead.TheVariants.{Malformed, Ignored, Link, Cancel, Flag, Number, String}
use Rattle.descriptions.specs.Judgement.{linked, FieldsJudged}
use Rattle.std.specs.Prelude.{Some, None}

-- ---- the answers that an arm `_` takes together

-- all but an ignored field
pub not_ignored : (s : List ℕ) (at : ℕ) (r : FieldRead) → Reads s at r → (r ≡ Ignored → ⊥)
    → is_ignored_field (reading (field_at s at)) ≡ false
unfolding is_ignored_field
not_ignored s at Malformed h t = rw h
not_ignored s at Ignored h t = absurd (t refl)
not_ignored s at (Link name) h t = rw h.0
not_ignored s at (Cancel a b) h t = rw h
not_ignored s at (Flag a b) h t = rw h
not_ignored s at (Number a b v) h t = rw h
not_ignored s at (String a b text n) h t = rw h.1

-- all but a malformed field and a link
pub judge_on : (s : List ℕ) (at : ℕ) (fs : List (List ℕ)) (r : FieldRead) → Reads s at r → (r ≡ Malformed → ⊥)
    → ((name : ℕ) → r ≡ Link name → ⊥) → judge (field_at s at ∷ fs) ≡ judge fs
judge_on s at fs Malformed h t u = absurd (t refl)
judge_on s at fs Ignored h t u = judge-ignored _ fs h
judge_on s at fs (Link name) h t u = absurd (u name refl)
judge_on s at fs (Cancel a b) h t u = judge_entry _ fs a b _ h
judge_on s at fs (Flag a b) h t u = judge_entry _ fs a b _ h
judge_on s at fs (Number a b v) h t u = judge_entry _ fs a b _ h
judge_on s at fs (String a b text n) h t u = judge_entry _ fs a b _ h.1

-- ---- the size of the fields passed

abbrev pub Sized : List ℕ → ℕ → ℕ → ℕ → Type 0
Sized s at i n = size (split (line_at s at)) ≡ n + size (split (line_at s i))

module _ (s : List ℕ) (at i n : ℕ) (q : Sized s at i n) where
  module _ (k next : ℕ) (e : split (line_at s i) ≡ field_at s i ∷ split (line_at s next)) (f : length (field_at s i) ≡ k) where
    sized_on : Sized s at next (n + (k + 1))
    unfolding size
    sized_on = q ∙ omega (arith, ap size e)

    pub sized_room : n + (k + 1) + size (split (line_at s next)) ≤ length s + 1
    sized_room = omega (arith, sized_on, size_bound s at)

  sized_done : split (line_at s i) ≡ [] → size (split (line_at s at)) ≡ n
  unfolding size
  sized_done e = q ∙ omega (arith, ap size e)

-- ---- only ignored fields

pub record Skipped (s : List ℕ) (at i n : ℕ) : Type 0 where
  pub sized : Sized s at i n
  pub all : all_ignored (split (line_at s at)) ≡ all_ignored (split (line_at s i))

module _ (s : List ℕ) (at i n : ℕ) (q : Skipped s at i n) where
  module _ (k next : ℕ) (e : split (line_at s i) ≡ field_at s i ∷ split (line_at s next)) where
    pub skipped_on : length (field_at s i) ≡ k → is_ignored_field (reading (field_at s i)) ≡ true → Skipped s at next (n + (k + 1))
    unfolding all_ignored
    skipped_on f h = record { sized = sized_on s at i n q.sized k next e f; all = q.all ∙ rw (e, h) }

    pub skipped_not : is_ignored_field (reading (field_at s i)) ≡ false → all_ignored (split (line_at s at)) ≡ false
    skipped_not h = q.all ∙ rw e (ignored_not _ _ h)

  pub skipped_done : split (line_at s i) ≡ [] → (all_ignored (split (line_at s at)) ≡ true) × (size (split (line_at s at)) ≡ n)
  skipped_done e = (q.all ∙ rw e ignored_nil, sized_done s at i n q.sized e)

-- ---- up to a link

pub record Judging (s : List ℕ) (i n : ℕ) : Type 0 where
  pub sized : Sized s 0 i n
  pub verdict : judge (split (line_at s 0)) ≡ judge (split (line_at s i))

module _ (s : List ℕ) (i n : ℕ) (q : Judging s i n) where
  module _ (k next : ℕ) (e : split (line_at s i) ≡ field_at s i ∷ split (line_at s next)) where
    judging_next : judge (split (line_at s 0)) ≡ judge (field_at s i ∷ split (line_at s next))
    judging_next = q.verdict ∙ ap judge e

    pub judging_on : length (field_at s i) ≡ k → judge (field_at s i ∷ split (line_at s next)) ≡ judge (split (line_at s next)) → Judging s next (n + (k + 1))
    judging_on f h = record { sized = sized_on s 0 i n q.sized k next e f; verdict = judging_next ∙ h }

    pub judging_malformed : reading (field_at s i) ≡ malformed → FieldsJudged s None
    judging_malformed h = judging_next ∙ judge-malformed _ _ h

    pub judging_link : (name : ℕ) → length (field_at s i) ≡ k → (reading (field_at s i) ≡ link (field_at s name)) × (name ≤ length s)
        → FieldsJudged s (linked (split (line_at s next)) name (n + (k + 1)))
    unfolding linked
    judging_link name f h = go (all_ignored (split (line_at s next))) refl
      where
        go : (x : Bool) → all_ignored (split (line_at s next)) ≡ x
            → FieldsJudged s (pick x (Some (record { size = n + (k + 1) + size (split (line_at s next)); link = Some name })) None)
        go true a = ((judging_next ∙ judge-link _ _ _ h.0 a, h.1), sized_on s 0 i n q.sized k next e f)
        go false a = judging_next ∙ judge-after _ _ _ h.0 a

  pub judging_done : split (line_at s i) ≡ [] → FieldsJudged s (Some (record { size = n; link = None }))
  judging_done e = (q.verdict ∙ ap judge e ∙ judge_nil, sized_done s 0 i n q.sized e)
