-- What the functions answer, by the cases of their answers.
use Rattle.std.specs.Prelude.{ℕ, ◌≤◌, ◌≡◌, List, length, Option, Result, Ok, Err}
use Rattle.spec.specs.Choice.{pick}
use Rattle.spec.specs.Refusals.{good_name}
use Rattle.spec.specs.Files.{Files, good_ends, contents}
use Rattle.spec.specs.Fields.{kind_number}
use Rattle.spec.specs.Chain.{Field, refused, terminal}
use Rattle.spec.specs.Strings.{good, plain, decode}
use Rattle.spec.specs.Answers.{put}
use Rattle.spec.specs.Questions.{terminal_for, presented}
use Rattle.spec.specs.declared.Kind.{Kind}
use Rattle.spec.specs.declared.Refusal.{Refusal}
use Rattle.spec.specs.declared.Refusal.TheVariants.{BadName, BadId, BadEnds}
use Rattle.field_bounds.specs.Answers.{field_at}
use Rattle.fields.specs.declared.FieldRead.{FieldRead}
use Rattle.fields.specs.declared.FieldRead.TheVariants.{Malformed, Ignored, Link, Cancel, Flag, Number, String}
use Rattle.lookup.specs.Answers.{LookedUp}
use Rattle.spec.specs.declared.Location.{Location}

-- `id_refusal`: the refusal of a question with a bad id.
unfoldable pub id_refusal : Files → List ℕ → Refusal
id_refusal db name = pick (good_ends db) (pick (good_name name) BadId BadName) BadEnds

-- `ask`: a question's terminal is refused; or the lookup in it finds nothing, or a field that is read so.
abbrev pub AskedFor : Files → List ℕ → List ℕ → Kind → Result (Option (Location × FieldRead)) Refusal → Type 0
AskedFor db name id k (Err r) = terminal_for db name id ≡ refused r
AskedFor db name id k (Ok o) =
    (names : List ℕ) × (fs : List Field) × (terminal_for db name id ≡ terminal names fs) × LookedUp id (kind_number k) fs (contents db) o
    × (length db.bytes ≤ 1048576)

-- ---- the value of a field by what it is read as

-- The decoded length of a string.
abbrev pub text_length : FieldRead → ℕ
text_length Malformed = 0
text_length Ignored = 0
text_length (Link name) = 0
text_length (Cancel a b) = 0
text_length (Flag a b) = 0
text_length (Number a b v) = 0
text_length (String a b text n) = n

-- `value_of`: "1, the number, or the decoded length".
abbrev pub read_value : FieldRead → ℕ
read_value Malformed = 0
read_value Ignored = 0
read_value (Link name) = 0
read_value (Cancel a b) = 0
read_value (Flag a b) = 1
read_value (Number a b v) = v
read_value (String a b text n) = n

-- ---- String

-- A text that decodes to n bytes.
abbrev pub TextOf : List ℕ → ℕ → ℕ → Type 0
TextOf s text n = (l : List ℕ) × (decode plain (field_at s text) ≡ good l) × (length l ≡ n)

-- `write_text`: the text's bytes are put into the buffer.
abbrev pub TextWritten : List ℕ → ℕ → List ℕ → Result (Option ℕ) Refusal → List ℕ → Type 0
TextWritten s text buffer r after =
    (l : List ℕ) × (decode plain (field_at s text) ≡ good l) × (r ≡ presented (put l (length l) buffer).answer) × (after ≡ (put l (length l) buffer).buffer)
