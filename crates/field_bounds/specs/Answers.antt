-- What the functions answer, by the cases of their answers. `s` is a part of the database; a place is an index of it.
use Rattle.std.specs.Prelude.{ℕ, ◌+◌, ◌≤◌, ◌<◌, ◌≡◌, true, false, List, [], ◌∷◌, length, Option, Some, None}
use Rattle.spec.specs.Lists.{upto, past, holds}
use Rattle.spec.specs.Lines.{line_at}
use Rattle.spec.specs.Fields.{split, names_of}
use Rattle.field_bounds.specs.declared.Extent.{Extent}
use Rattle.field_bounds.specs.declared.Bounds.{Bounds}
use Rattle.field_bounds.specs.declared.AfterNames.{AfterNames}

-- The text of the field at a place: up to the next colon (58), or the line's end.
abbrev pub field_at : List ℕ → ℕ → List ℕ
field_at s at = upto 58 (line_at s at)

-- n bytes of the field at `at` stand before the place `i`: the field at `i` is so much shorter, and what follows it is the same.
pub record Passed (s : List ℕ) (at i n : ℕ) : Type 0 where
  pub onward : at + n ≤ i
  pub count : length (field_at s at) ≡ n + length (field_at s i)
  pub colon : holds 58 (line_at s at) ≡ holds 58 (line_at s i)
  pub rest : past 58 (line_at s at) ≡ past 58 (line_at s i)

-- `field_byte`: the field at a place is a byte and the field at the place that it answers, or empty.
abbrev pub FieldStep : List ℕ → ℕ → Option (ℕ × ℕ) → Type 0
FieldStep s at (Some (b, n)) = (field_at s at ≡ b ∷ field_at s n) × (at < n) × (n ≤ length s) × Passed s at n 1
FieldStep s at None = field_at s at ≡ []

-- Where the line at a place goes on behind the colon that ends its first field, if one does.
abbrev pub ColonPassed : List ℕ → ℕ → Option ℕ → Type 0
ColonPassed s at (Some next) = (holds 58 (line_at s at) ≡ true) × (past 58 (line_at s at) ≡ line_at s next) × (at < next) × (next ≤ length s)
ColonPassed s at None = holds 58 (line_at s at) ≡ false

-- `find_colon`: so many bytes has the field at a place; a colon ends it, and the rest of the line follows, or there is none.
abbrev pub ColonFound : List ℕ → ℕ → Extent → Type 0
ColonFound s at e = (length (field_at s at) ≡ e.length) × ColonPassed s at e.after

-- `next_bounds`: the fields from a place on are none; or one of so many bytes, and those from a place on.
abbrev pub Bounded : List ℕ → ℕ → Option Bounds → Type 0
Bounded s at None = split (line_at s at) ≡ []
Bounded s at (Some b) =
    (split (line_at s at) ≡ field_at s at ∷ split (line_at s b.next)) × (length (field_at s at) ≡ b.length) × (at < b.next) × (b.next ≤ length s)

-- `after_names`: a line has no colon; or its fields are read from a place on, and its names have so many bytes.
abbrev pub NamesPassed : List ℕ → ℕ → Option AfterNames → Type 0
NamesPassed db at None = holds 58 (line_at db at) ≡ false
NamesPassed db at (Some a) =
    (holds 58 (line_at db at) ≡ true) × (past 58 (line_at db at) ≡ line_at db a.fields) × (length (names_of (line_at db at)) ≡ a.names)
    × (at < a.fields) × (a.fields ≤ length db)
