-- List and Flat: from the inputs and the lent buffer to the answer and the buffer afterwards.
use Rattle.std.specs.Prelude.{ℕ, ◌+◌, ◌-◌, ◌*◌, ◌/◌, ◌%◌, ◌≤◌, List, [], ◌∷◌, ◌++◌, length, Result, Err}
use Rattle.spec.specs.Fields.{Reading, malformed, ignored, link, capability, reading, with_colons, content_kind, content_value}
use Rattle.spec.specs.Files.{Files}
use Rattle.spec.specs.Chain.{Field, texts, Terminal, refused, terminal}
use Rattle.spec.specs.Lookup.{winning}
use Rattle.spec.specs.Answers.{Outcome, keeping, put, Report, written_report}
use Rattle.spec.specs.Questions.{terminal_of}
use Rattle.spec.specs.declared.Refusal.{Refusal}

-- ---- List

-- "A 32-bit value, high byte first."
abbrev pub four_bytes : ℕ → List ℕ
four_bytes v = v / 16777216 % 256 ∷ v / 65536 % 256 ∷ v / 256 % 256 ∷ v % 256 ∷ []

-- "Two name bytes; kind; place of the description in the chain from 0; a 32-bit value"; Ask 5: "12 bytes, with the file number from 0 and
-- three zeros at the end".
unfoldable pub record_of : ℕ → ℕ → Reading → List ℕ
record_of place file malformed = []
record_of place file ignored = []
record_of place file (link n) = []
record_of place file (capability a b c) = a ∷ b ∷ content_kind c ∷ place ∷ four_bytes (content_value c) ++ file ∷ 0 ∷ 0 ∷ 0 ∷ []

-- "Records stand in the order of the winning fields. No header."
unfoldable pub records : List Field → List ℕ
records [] = []
records (f ∷ fs) = record_of f.place f.file (reading f.text) ++ records fs

unfoldable pub list_for : Terminal → List ℕ → Outcome (Result ℕ Refusal)
list_for (refused r) buffer = keeping (Err r) buffer
list_for (terminal names fs) buffer = put (records (winning fs)) (length (winning fs)) buffer

unfoldable pub list_outcome : Files → List ℕ → List ℕ → Outcome (Result ℕ Refusal)
list_outcome db name buffer = list_for (terminal_of db name) buffer

abbrev pub list_report : Files → List ℕ → List ℕ → Report
list_report db name buffer = written_report (list_outcome db name buffer).answer

-- ---- Flat: "the first line's names, a colon, then each winning field as written (joined) with a colon, then a newline"

unfoldable pub flat_text : List ℕ → List Field → List ℕ
flat_text names fs = with_colons (names ∷ texts (winning fs)) ++ 10 ∷ []

unfoldable pub flat_for : Terminal → List ℕ → Outcome (Result ℕ Refusal)
flat_for (refused r) buffer = keeping (Err r) buffer
flat_for (terminal names fs) buffer = put (flat_text names fs) (length (flat_text names fs)) buffer

unfoldable pub flat_outcome : Files → List ℕ → List ℕ → Outcome (Result ℕ Refusal)
flat_outcome db name buffer = flat_for (terminal_of db name) buffer

abbrev pub flat_report : Files → List ℕ → List ℕ → Report
flat_report db name buffer = written_report (flat_outcome db name buffer).answer

-- ---- what an accepted chain can need at most

-- Winning fields. The chain's size is at most 16,384; the first line's names are at least one byte, as a name is, and 1 is added to them; a
-- winning field is at least two bytes, and 1 is added to it.
abbrev pub most_winning : ℕ
most_winning = (16384 - 2) / 3

abbrev pub record_size : ℕ
record_size = 12

-- 65,520 bytes of records.
abbrev pub most_record_bytes : ℕ
most_record_bytes = most_winning * record_size

-- Flat is no longer than the chain's size, but for its newline.
abbrev pub most_flat_bytes : ℕ
most_flat_bytes = 16384 + 1

-- So it is for every terminal that is not refused (proofs/ListingBounds).
pub record Bounded (names : List ℕ) (fs : List Field) : Type 0 where
  pub winning-fields : length (winning fs) ≤ most_winning
  pub record_bytes : length (records (winning fs)) ≤ most_record_bytes
  pub flat-bytes : length (flat_text names fs) ≤ most_flat_bytes
