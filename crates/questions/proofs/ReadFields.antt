-- The value and the bytes of a field by what it is read as.
-- Assumes nothing.
use Prim.Native.Nat.{ℕ, ◌≤◌}
use mathlib.Core.Path.{◌≡◌, refl}
use mathlib.Core.List.{List, []}
use native.Mathlib.Omega.{arith}
use lib.ListN.{length, drop, length-drop}
use Rattle.spec.specs.Files.{Files, contents, file_at}
use Rattle.spec.specs.Fields.{Reading}
use Rattle.spec.specs.Lookup.{value_of, bytes_of}
use Rattle.spec.specs.declared.Location.{Location}
use Rattle.laws.proofs.FileParts.{file-short}
use Rattle.field_bounds.proofs.LineBounds.{text_bound}
use Rattle.fields.specs.Readings.{ReadAs}
use Rattle.fields.specs.declared.FieldRead.{FieldRead}
use Rattle.fields.specs.declared.FieldRead.TheVariants.{Malformed, Ignored, Link, Cancel, Flag, Number, String}
use Rattle.questions.specs.Answers.{text_length, read_value}

module _ (s : List ℕ) (r : Reading) where
  pub read_value_lem : (read : FieldRead) → ReadAs s r read → value_of r ≡ read_value read
  unfolding value_of
  read_value_lem Malformed p = rw p
  read_value_lem Ignored p = rw p
  read_value_lem (Link name) p = rw p.0
  read_value_lem (Cancel a b) p = rw p
  read_value_lem (Flag a b) p = rw p
  read_value_lem (Number a b v) p = rw p
  read_value_lem (String a b text n) p = rw p.1 p.3

  read_length : (read : FieldRead) → ReadAs s r read → text_length read ≤ length s
  read_length Malformed p = omega arith
  read_length Ignored p = omega arith
  read_length (Link name) p = omega arith
  read_length (Cancel a b) p = omega arith
  read_length (Flag a b) p = omega arith
  read_length (Number a b v) p = omega arith
  read_length (String a b text n) p = omega (arith, text_bound s text p.0 p.2, p.3)

  -- all but a string
  pub read_nothing : (read : FieldRead) → ReadAs s r read → ((a b text n : ℕ) → read ≡ String a b text n → ⊥) → bytes_of r ≡ []
  unfolding bytes_of
  read_nothing Malformed p t = rw p
  read_nothing Ignored p t = rw p
  read_nothing (Link name) p t = rw p.0
  read_nothing (Cancel a b) p t = rw p
  read_nothing (Flag a b) p t = rw p
  read_nothing (Number a b v) p t = rw p
  read_nothing (String a b text n) p t = absurd (t a b text n refl)

-- all but a flag, a number and a string
pub no_value : (read : FieldRead) → ((a b : ℕ) → read ≡ Flag a b → ⊥) → ((a b v : ℕ) → read ≡ Number a b v → ⊥) → ((a b text n : ℕ) → read ≡ String a b text n → ⊥) → read_value read ≡ 0
no_value Malformed t0 t1 t2 = refl
no_value Ignored t0 t1 t2 = refl
no_value (Link name) t0 t1 t2 = refl
no_value (Cancel a b) t0 t1 t2 = refl
no_value (Flag a b) t0 t1 t2 = absurd (t0 a b refl)
no_value (Number a b v) t0 t1 t2 = absurd (t1 a b v refl)
no_value (String a b text n) t0 t1 t2 = absurd (t2 a b text n refl)

pub read_small : (db : Files) (l : Location) (r : Reading) (read : FieldRead) → ReadAs (drop l.at (file_at (contents db) l.file)) r read
    → text_length read ≤ length db.bytes
read_small db l r read p =
    let part = file_at (contents db) l.file in
    omega (arith, read_length (drop l.at part) r read p, length-drop l.at part, file-short db l.file)
