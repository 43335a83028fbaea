-- What the functions answer: a pass over the fields into the tables of what answers, and the answer to a question by the tables.
use Rattle.std.specs.Prelude.{ℕ, ◌<◌, ◌≡◌, List, [], ◌∷◌, ◌++◌, Option, Result, Ok, Err, ⊤}
use Rattle.std.proofs.lemmas.List.Edits.{sets}
use Rattle.spec.specs.Fields.{reading}
use Rattle.spec.specs.Chain.{Field, placed, Terminal, refused, terminal}
use Rattle.spec.specs.Lookup.{hit, lookup, value_of}
use Rattle.spec.specs.Batch.{batch_answer, batch_answers}
use Rattle.field_bounds.specs.Answers.{field_at}
use Rattle.fields.specs.Readings.{Reads}
use Rattle.fields.specs.declared.FieldRead.{FieldRead}
use Rattle.capability_table.specs.Answers.{Answering}
use Rattle.batch.specs.declared.Question.{Question}
use Rattle.batch.specs.declared.Tables.{Tables}
use Rattle.spec.specs.declared.Refusal.{Refusal}

-- ---- the pass

-- Fields are taken into the tables, after those that the tables are about.
abbrev pub Notes : List Field → Tables → Tables → Type 0
Notes gs t t' = (fs : List Field) → Answering fs t.marks t.values → Answering (fs ++ gs) t'.marks t'.values

-- `note_field`: whatever field is read so.
abbrev pub NotesRead : FieldRead → Tables → Tables → Type 0
NotesRead read t t' =
    (s : List ℕ) (at place file : ℕ) → Reads s at read → Notes (record { place = place; file = file; text = field_at s at } ∷ []) t t'

-- `note_fields`, `note_line`: the fields of a line, wherever the line stands in the chain.
abbrev pub NotesTexts : List (List ℕ) → Tables → Tables → Type 0
NotesTexts ts t t' = (place file : ℕ) → Notes (placed place file ts) t t'

-- ---- the answers

-- The value of every field that answers fits in 16 bits.
abbrev pub SmallValues : List Field → Type 0
SmallValues fs = (id : List ℕ) (k : ℕ) (t : List ℕ) → lookup id k fs ≡ hit t → value_of (reading t) < 65536

-- What is known of a terminal: that the walk refused it; or that the tables are about its fields.
abbrev pub Known : Terminal → Result ⊤ Refusal → Tables → Type 0
Known t (Err r) tables = t ≡ refused r
Known t (Ok u) tables = (names : List ℕ) × (fs : List Field) × (t ≡ terminal names fs) × Answering fs tables.marks tables.values × SmallValues fs

-- `note_terminal`: from empty tables on.
abbrev pub NotesTerminal : Terminal → Tables → Result ⊤ Refusal → Tables → Type 0
NotesTerminal t before r after = Answering [] before.marks before.values → Known t r after

-- `answer_one` and `put_answers`: for whatever terminal is known so.
abbrev pub Answers : Question → Result ⊤ Refusal → Tables → Result (Option ℕ) Refusal → Type 0
Answers q w tables r = (t : Terminal) → Known t w tables → r ≡ batch_answer t q.0 q.1 q.2 q.3

abbrev pub PutAnswers : List ℕ → Result ⊤ Refusal → Tables → List ℕ → List ℕ → Type 0
PutAnswers questions w tables out out' = (t : Terminal) → Known t w tables → out' ≡ sets out 0 (batch_answers t questions)
