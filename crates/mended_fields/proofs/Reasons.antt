-- Why a field is removed, by what it is read as: the answers that an arm `_` takes together, by their tags.
-- Assumes nothing.
use Prim.Native.Nat.{ℕ}
use mathlib.Core.Path.{◌≡◌, refl}
use mathlib.Core.Bool.{Bool, true, false}
use mathlib.Core.List.{List}
use Rattle.spec.specs.Choice.{pick, either}
use Rattle.spec.specs.Fields.{reading}
use Rattle.spec.specs.Repair.{field_reason, is_link}
use Rattle.field_bounds.specs.Answers.{field_at}
use Rattle.fields.specs.Readings.{Reads}
use Rattle.fields.specs.declared.FieldRead.{FieldRead}
use Rattle.fields.specs.declared.FieldRead.TheVariants.{Malformed, Ignored, Link, Cancel, Flag, Number, String}

module _ (linked : Bool) (reason : ℕ) (s : List ℕ) (at : ℕ) where
  -- a capability
  pub reason-capability : (read : FieldRead) → (read ≡ Malformed → ⊥) → (read ≡ Ignored → ⊥) → ((name : ℕ) → read ≡ Link name → ⊥)
      → Reads s at read → field_reason linked reason (reading (field_at s at)) ≡ pick linked 3 0
  unfolding field_reason
  reason-capability Malformed t0 t1 t2 h = absurd (t0 refl)
  reason-capability Ignored t0 t1 t2 h = absurd (t1 refl)
  reason-capability (Link name) t0 t1 t2 h = absurd (t2 name refl)
  reason-capability (Cancel a b) t0 t1 t2 h = rw h
  reason-capability (Flag a b) t0 t1 t2 h = rw h
  reason-capability (Number a b v) t0 t1 t2 h = rw h
  reason-capability (String a b text n) t0 t1 t2 h = rw h.1

module _ (s : List ℕ) (at : ℕ) where
  -- all but a link
  pub linked-other : (read : FieldRead) → ((name : ℕ) → read ≡ Link name → ⊥) → Reads s at read
      → is_link (reading (field_at s at)) ≡ false
  unfolding is_link
  linked-other Malformed t h = rw h
  linked-other Ignored t h = rw h
  linked-other (Link name) t h = absurd (t name refl)
  linked-other (Cancel a b) t h = rw h
  linked-other (Flag a b) t h = rw h
  linked-other (Number a b v) t h = rw h
  linked-other (String a b text n) t h = rw h.1

pub either_true : (x : Bool) → true ≡ either x true
either_true true = refl
either_true false = refl
