-- What the functions answer: one pass over the fields with a table of the capabilities that were met, and the bytes that the pass writes
-- for the winning ones.
use Rattle.std.specs.Prelude.{ℕ, ◌+◌, ◌≤◌, ◌≡◌, Bool, true, false, not, List, [], ◌∷◌, ◌++◌, length, Result, Option, Some, None}
use Rattle.std.proofs.lemmas.List.Edits.{sets}
use Rattle.spec.specs.Choice.{both}
use Rattle.spec.specs.Fields.{Reading, reading}
use Rattle.spec.specs.Chain.{Field, first_names, joined_fields}
use Rattle.spec.specs.Lookup.{can_win, hidden, winning_after, winning, read_before}
use Rattle.spec.specs.Answers.{put}
use Rattle.spec.specs.Listing.{four_bytes, record_of, records, flat_text, Bounded}
use Rattle.field_bounds.specs.Answers.{field_at}
use Rattle.fields.specs.Readings.{Reads}
use Rattle.fields.specs.declared.FieldRead.{FieldRead}
use Rattle.chain.specs.Answers.{lines_of}
use Rattle.chain.specs.declared.Chain.{Chain}
use Rattle.capability_table.specs.Table.{Marks}
use Rattle.listing.specs.declared.Form.{Form}
use Rattle.listing.specs.declared.Form.TheVariants.{Records, Texts}
use Rattle.listing.specs.declared.Origin.{Origin}
use Rattle.listing.specs.declared.Won.{Won}
use Rattle.spec.specs.declared.Refusal.{Refusal}

-- The record of a capability.
abbrev pub record_bytes : ℕ → ℕ → ℕ → Origin → ℕ → List ℕ
record_bytes a b k from v = a ∷ b ∷ k ∷ from.place ∷ four_bytes v ++ from.file ∷ 0 ∷ 0 ∷ 0 ∷ []

abbrev pub SomeMarks : List ℕ → Type 0
SomeMarks table = (qs : List Reading) × Marks qs table

abbrev pub won_if : Bool → ℕ → ℕ → ℕ → ℕ → Option Won
won_if true a b k v = Some (record { a = a; b = b; kind = k; value = v })
won_if false a b k v = None

-- ---- a field in the pass

-- Whether a field wins after the fields that were read so.
abbrev pub wins : List Reading → Reading → Bool
wins qs r = both (can_win r) (not (hidden qs r))

abbrev pub WonAfter : List Reading → Reading → Option Won → Type 0
WonAfter qs r None = wins qs r ≡ false
WonAfter qs r (Some w) = (wins qs r ≡ true) × ((from : Origin) → record_of from.place from.file r ≡ record_bytes w.a w.b w.kind from w.value)

-- A field with that reading is marked, and it wins or not.
abbrev pub TookReading : Reading → List ℕ → List ℕ → Option Won → Type 0
TookReading r table table' won = (qs : List Reading) → Marks qs table → Marks (r ∷ qs) table' × WonAfter qs r won

-- `take_field`: whatever field is read so.
abbrev pub Took : FieldRead → List ℕ → List ℕ → Option Won → Type 0
Took read table table' won = (s : List ℕ) (at : ℕ) → Reads s at read → TookReading (reading (field_at s at)) table table' won

-- ---- what is written

-- For a listing the records; for Flat the texts, each with its colon (58).
abbrev pub field_bytes : Form → Field → List ℕ
field_bytes Records f = record_of f.place f.file (reading f.text)
field_bytes Texts f = f.text ++ 58 ∷ []

unfoldable pub written : Form → List Field → List ℕ
written form [] = []
written form (f ∷ fs) = field_bytes form f ++ written form fs

-- A pass over fields: they are marked, and what is written for the winning ones stands in the buffer from a place on.
pub record Passed (form : Form) (fs : List Field) (qs : List Reading) (table out : List ℕ) (to : ℕ) (table' out' : List ℕ) (end : ℕ) : Type 0 where
  pub marks : Marks (read_before qs fs) table'
  pub ends : end ≡ to + length (written form (winning_after qs fs))
  pub stored : out' ≡ sets out to (written form (winning_after qs fs))

abbrev pub Passes : Form → List Field → List ℕ → List ℕ → ℕ → List ℕ → List ℕ → ℕ → Type 0
Passes form fs table out to table' out' end = (qs : List Reading) → Marks qs table → Passed form fs qs table out to table' out' end

abbrev pub one_field : Origin → List ℕ → List Field
one_field from text = record { place = from.place; file = from.file; text = text } ∷ []

-- The most bytes that are written for one line: 12 for each byte of a database, and for one more.
abbrev pub most_for_line : ℕ
most_for_line = 12582924

-- No pass gets farther: it starts within so many bytes, and a chain has 32 lines.
abbrev pub farthest : ℕ
farthest = 1073741824

-- `write_winning`: what is written for the winning ones of all fields.
abbrev pub WroteWinning : Form → List Field → List ℕ → ℕ → List ℕ → ℕ → Type 0
WroteWinning form fs out to out' end = (end ≡ to + length (written form (winning fs))) × (out' ≡ sets out to (written form (winning fs)))

-- ---- List and Flat

-- An answer, and the buffer afterwards, as `put` has them.
abbrev pub Put : List ℕ → ℕ → List ℕ → Result ℕ Refusal → List ℕ → Type 0
Put bytes n buffer r after = (r ≡ (put bytes n buffer).answer) × (after ≡ (put bytes n buffer).buffer)

-- The records and Flat of a chain.
abbrev pub records_of : List (List ℕ) → Chain → List ℕ
records_of db c = records (winning (joined_fields db 0 (lines_of c)))

abbrev pub flat_of : List (List ℕ) → Chain → List ℕ
flat_of db c = flat_text (first_names db (lines_of c)) (joined_fields db 0 (lines_of c))

-- What is known of both for every accepted chain.
abbrev pub BoundedChain : List (List ℕ) → Chain → Type 0
BoundedChain db c = Bounded (first_names db (lines_of c)) (joined_fields db 0 (lines_of c))

-- What is written of a chain in each form, and a count of bytes that serves for every accepted one.
abbrev pub whole_of : Form → List (List ℕ) → Chain → List ℕ
whole_of Records db c = records_of db c
whole_of Texts db c = flat_of db c

abbrev pub ServesAll : Form → ℕ → Type 0
ServesAll form n = (db : List (List ℕ)) (c : Chain) → BoundedChain db c → length (whole_of form db c) ≤ n
