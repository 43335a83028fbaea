-- What the functions that read one field answer, by the cases of their answers.
use Rattle.std.specs.Prelude.{ℕ, ◌≤◌, ◌<◌, ◌≡◌, Bool, true, false, List, [], ◌∷◌, ◌++◌, eqb, length, Option, Some, None}
use Rattle.spec.specs.Choice.{pick, both}
use Rattle.spec.specs.Refusals.{id_bytes}
use Rattle.spec.specs.Lines.{line_at}
use Rattle.spec.specs.Strings.{good, plain, decode}
use Rattle.spec.specs.Fields.{split, good_number, number_value, content_reading, named_reading, reading}
use Rattle.spec.specs.Fields.{Reading, malformed, ignored, link, capability, cancel, flag, number, string}
use Rattle.field_bounds.specs.Answers.{field_at, Passed}
use Rattle.fields.specs.declared.FieldRead.{FieldRead}
use Rattle.fields.specs.declared.FieldRead.TheVariants.{Malformed, Ignored, Link, Cancel, Flag, Number, String}
use Rattle.fields.specs.declared.Stopped.{Stopped}
use Rattle.fields.specs.declared.Digits.{Digits}
use Rattle.fields.specs.declared.Field.{Field}

-- Whether a list starts with another.
unfoldable pub starts : List ℕ → List ℕ → Bool
starts [] l = true
starts (a ∷ start) [] = false
starts (a ∷ start) (b ∷ l) = both (eqb b a) (starts start l)

-- `after_start`: the field at a place is the start and then the field at the place that it answers; or it starts otherwise.
abbrev pub Starts : List ℕ → ℕ → List ℕ → Option ℕ → Type 0
Starts s at start (Some n) = (field_at s at ≡ start ++ field_at s n) × Passed s at n (length start)
Starts s at start None = starts start (field_at s at) ≡ false

-- The field at a place is a number's digits, with their value, or not.
abbrev pub Valued : List ℕ → ℕ → Option ℕ → Type 0
Valued s at (Some v) = (good_number (field_at s at) ≡ true) × (number_value (field_at s at) ≡ v)
Valued s at None = good_number (field_at s at) ≡ false

-- `read_digits`: the value of a number's digits, and so many bytes of the field are passed up to the place where the reader stopped.
abbrev pub Numbers : List ℕ → ℕ → Digits → Type 0
Numbers s at d = Valued s at d.value × Passed s at d.stop d.passed × (d.passed ≤ 6)

-- The readers of parts of a field: a reading, with its link or its text at a place of `s`.
abbrev pub ReadAs : List ℕ → Reading → FieldRead → Type 0
ReadAs s read Malformed = read ≡ malformed
ReadAs s read Ignored = read ≡ ignored
ReadAs s read (Link name) = (read ≡ link (field_at s name)) × (name ≤ length s)
ReadAs s read (Cancel a b) = read ≡ capability a b cancel
ReadAs s read (Flag a b) = read ≡ capability a b flag
ReadAs s read (Number a b v) = read ≡ capability a b (number v)
ReadAs s read (String a b text n) = (l : List ℕ) × (read ≡ capability a b (string l)) × (decode plain (field_at s text) ≡ good l) × (length l ≡ n)

-- The readers of parts of a field, from a place behind its first `k` bytes on: what the field is read as, and the place where they stopped,
-- behind so many of its bytes.
abbrev pub Stops : List ℕ → ℕ → ℕ → Reading → Stopped → Type 0
Stops s at k read r = ReadAs s read r.0 × ((start : ℕ) → Passed s start at k → Passed s start r.1 r.2)

-- `read_capability`: a field that is no link.
unfoldable pub other_reading : List ℕ → Reading
other_reading [] = malformed
other_reading (a ∷ []) = malformed
other_reading (a ∷ b ∷ l) = pick (id_bytes a b) (content_reading a b l) malformed

-- `read_named`: a field that is not ignored.
unfoldable pub name_reading : List ℕ → Reading
name_reading [] = malformed
name_reading (a ∷ l) = named_reading a l

-- What the field at a place is read as. A link has the place of its name; a string the place of its text, and the count of
-- its decoded bytes.
abbrev pub Reads : List ℕ → ℕ → FieldRead → Type 0
Reads s at read = ReadAs s (reading (field_at s at)) read

-- `read_from`: the same, with the place where the reader stopped, behind so many of the field's bytes.
abbrev pub ReadUpTo : List ℕ → ℕ → Stopped → Type 0
ReadUpTo s at r = Reads s at r.0 × Passed s at r.1 r.2

-- `next_field`: the fields from a place on are none; or one that is read so, of so many bytes, and those from a place on.
abbrev pub FieldsFrom : List ℕ → ℕ → Option Field → Type 0
FieldsFrom s at None = split (line_at s at) ≡ []
FieldsFrom s at (Some f) =
    (split (line_at s at) ≡ field_at s at ∷ split (line_at s f.next)) × Reads s at f.read × (length (field_at s at) ≡ f.length) × (at < f.next)
    × (f.next ≤ length s)
