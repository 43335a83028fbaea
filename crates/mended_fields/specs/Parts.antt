-- What the functions answer, by the cases of their answers. `s` is the part of the database that starts after a line's names; a place is an
-- index of it.
use Rattle.std.specs.Prelude.{ℕ, ◌≤◌, ◌<◌, ◌≡◌, Bool, true, false, List, [], ◌∷◌, ◌++◌, eqb, length, Option, Some, None}
use Rattle.std.proofs.lemmas.List.Edits.{sets}
use Rattle.spec.specs.Choice.{pick, either}
use Rattle.spec.specs.Lists.{holds}
use Rattle.spec.specs.Lines.{line_at}
use Rattle.spec.specs.Fields.{reading}
use Rattle.spec.specs.Repair.{pieces, field_reason, is_link, parts_from, kept_bytes, ends_in_backslash, closed, removal_record, part_records, flattened}
use Rattle.field_bounds.specs.Answers.{field_at}
use Rattle.fields.specs.Readings.{Reads}
use Rattle.fields.specs.declared.FieldRead.{FieldRead}
use Rattle.mended_fields.specs.declared.NextPart.{NextPart}

-- Bytes are stored in a buffer from a place on, and their count is answered.
pub record Put (bytes out : List ℕ) (at : ℕ) (out' : List ℕ) (n : ℕ) : Type 0 where
  pub count : n ≡ length bytes
  pub stored : out' ≡ sets out at bytes

abbrev pub colon_if : Bool → List ℕ
colon_if true = 58 ∷ []
colon_if false = []

-- The field at a place as it is written: its text, and its colon (58) if it has one.
unfoldable pub piece_at : List ℕ → ℕ → List ℕ
piece_at s at = field_at s at ++ colon_if (holds 58 (line_at s at))

-- ---- why a field is removed

-- `field_reason`, `link_up_to`: whatever field is read so.
abbrev pub ReasonFor : Bool → ℕ → FieldRead → ℕ → Type 0
ReasonFor linked reason read r = (s : List ℕ) (at : ℕ) → Reads s at read → r ≡ field_reason linked reason (reading (field_at s at))

abbrev pub LinkUpTo : Bool → FieldRead → Bool → Type 0
LinkUpTo linked read r = (s : List ℕ) (at : ℕ) → Reads s at read → r ≡ either linked (is_link (reading (field_at s at)))

-- `next_part`: the fields from a place on are none; or one that is removed for that reason, of so many bytes, and those from a place on.
abbrev pub PartFound : List ℕ → ℕ → Bool → ℕ → Option NextPart → Type 0
PartFound s at linked reason None = pieces (line_at s at) ≡ []
PartFound s at linked reason (Some p) =
    (pieces (line_at s at) ≡ piece_at s at ∷ pieces (line_at s p.next)) × (p.reason ≡ field_reason linked reason (reading (field_at s at)))
    × (p.linked ≡ either linked (is_link (reading (field_at s at)))) × (length (piece_at s at) ≡ p.count) × (at < p.next) × (p.next ≤ length s)

-- ---- what is written

-- The record of a field of so many bytes, if it is removed.
unfoldable pub record_if : ℕ → ℕ → ℕ → ℕ → List ℕ
record_if line place reason count = pick (eqb reason 0) [] (removal_record line place reason count)

-- `record_fields`: the records of the fields from a place on, the first of which stands at a place of the joined line, with a link before it
-- or not.
unfoldable pub records_from : List ℕ → ℕ → ℕ → Bool → ℕ → ℕ → List ℕ
records_from s line reason linked place at = flattened (part_records line (parts_from linked reason place (pieces (line_at s at))))

-- A field, if it is kept: with a colon, if it would end in a backslash.
unfoldable pub written_if : ℕ → List ℕ → List ℕ
written_if reason piece = pick (eqb reason 0) (piece ++ colon_if (ends_in_backslash piece)) []

-- `write_kept`: the fields from a place on that are kept, closed as a changed line is. Their places do not matter.
unfoldable pub kept_from : List ℕ → ℕ → Bool → ℕ → List ℕ
kept_from s reason linked at = closed (kept_bytes (parts_from linked reason 0 (pieces (line_at s at))))
