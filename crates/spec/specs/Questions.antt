-- Show, Flag, Number and String: from the inputs and the lent buffer to the answer and the buffer afterwards.
use Rattle.std.specs.Prelude.{ℕ, ◌+◌, ◌-◌, ◌≡◌, List, [], length, take, drop, Option, Some, None, Result, Ok, Err}
use Rattle.std.specs.Borrow.{Bor}
use Rattle.spec.specs.Choice.{pick}
use Rattle.spec.specs.Refusals.{good_name, good_id, too_large}
use Rattle.spec.specs.Lines.{extent}
use Rattle.spec.specs.Files.{Files, good_ends, contents, file_start, file_at, find_from}
use Rattle.spec.specs.Fields.{reading, kind_number}
use Rattle.spec.specs.Chain.{Terminal, refused, terminal, resolve}
use Rattle.spec.specs.Lookup.{Hit, none, hit, lookup, value_of, bytes_of}
use Rattle.spec.specs.Answers.{Outcome, keeping, put, Report, answer_report, shown_report}
use Rattle.spec.specs.declared.Kind.{Kind}
use Rattle.spec.specs.declared.Kind.TheVariants.{Flag, Number, String}
use Rattle.spec.specs.declared.Refusal.TheVariants.{BadName, BadId, DatabaseTooLarge, UnknownName, BadEnds}
use Rattle.spec.specs.declared.Refusal.{Refusal}
use Rattle.spec.specs.declared.Location.{Location}
use Rattle.spec.specs.declared.Part.{Part}

-- ---- "Order: 1, 2, 3, then the walk"; 16 comes "before all others"; "limit 3 is for all of [the buffer]"

-- The terminal that List and Flat are about.
unfoldable pub terminal_of : Files → List ℕ → Terminal
terminal_of db name =
    pick (good_ends db)
    (pick (good_name name) (pick (too_large db.bytes) (refused DatabaseTooLarge) (resolve (contents db) name)) (refused BadName))
    (refused BadEnds)

-- The terminal that a question with an id is about.
unfoldable pub terminal_for : Files → List ℕ → List ℕ → Terminal
terminal_for db name id =
    pick (good_ends db) (pick (good_name name) (pick (good_id id) (terminal_of db name) (refused BadId)) (refused BadName)) (refused BadEnds)

-- ---- Flag, Number: "present with its value, or absent"

unfoldable pub hit_answer : Hit → Result (Option ℕ) Refusal
hit_answer none = (Ok None)
hit_answer (hit f) = (Ok (Some (value_of (reading f))))

unfoldable pub answer_for : List ℕ → Kind → Terminal → Result (Option ℕ) Refusal
answer_for id k (refused r) = Err r
answer_for id k (terminal names fs) = hit_answer (lookup id (kind_number k) fs)

unfoldable pub flag_answer : Files → List ℕ → List ℕ → Result (Option ℕ) Refusal
flag_answer db name id = answer_for id Flag (terminal_for db name id)

abbrev pub flag_report : Files → List ℕ → List ℕ → Report
flag_report db name id = answer_report (flag_answer db name id)

unfoldable pub number_answer : Files → List ℕ → List ℕ → Result (Option ℕ) Refusal
number_answer db name id = answer_for id Number (terminal_for db name id)

abbrev pub number_report : Files → List ℕ → List ℕ → Report
number_report db name id = answer_report (number_answer db name id)

-- ---- String: "writes the decoded bytes and reports their count"; "absent is no refusal, and writes nothing"

abbrev pub presented : Result ℕ Refusal → Result (Option ℕ) Refusal
presented (Ok n) = (Ok (Some n))
presented (Err r) = Err r

unfoldable pub decoded_outcome : Hit → List ℕ → Outcome (Result (Option ℕ) Refusal)
decoded_outcome none buffer = keeping (Ok None) buffer
decoded_outcome (hit f) buffer =
    let o = put (bytes_of (reading f)) (length (bytes_of (reading f))) buffer in
    record { answer = presented o.answer; buffer = o.buffer }

unfoldable pub string_for : List ℕ → Terminal → List ℕ → Outcome (Result (Option ℕ) Refusal)
string_for id (refused r) buffer = keeping (Err r) buffer
string_for id (terminal names fs) buffer = decoded_outcome (lookup id (kind_number String) fs) buffer

unfoldable pub string_outcome : Files → List ℕ → List ℕ → List ℕ → Outcome (Result (Option ℕ) Refusal)
string_outcome db name id buffer = string_for id (terminal_for db name id) buffer

abbrev pub string_report : Files → List ℕ → List ℕ → List ℕ → Report
string_report db name id buffer = answer_report (string_outcome db name id buffer).answer

-- ---- Show: 16, 1, 3, 4. "It looks at names only, not at fields or links." The part is one of the whole buffer; its file bounds it.

unfoldable pub shown : Files → Option Location → Result Part Refusal
shown db (Some l) = Ok (record { from = file_start db l.file + l.at; to = file_start db l.file + extent (file_at (contents db) l.file) l.at })
shown db None = Err UnknownName

unfoldable pub show_answer : Files → List ℕ → Result Part Refusal
show_answer db name =
    pick (good_ends db)
    (pick (good_name name) (pick (too_large db.bytes) (Err DatabaseTooLarge) (shown db (find_from (contents db) 0 name))) (Err BadName))
    (Err BadEnds)

abbrev pub show_report : Files → List ℕ → Report
show_report db name = shown_report (show_answer db name)

-- The bytes of the shown part, and the place of the buffer where it starts: "for Show also an empty part" with a refusal, at the start.
abbrev pub shown_bytes : List ℕ → Result Part Refusal → List ℕ
shown_bytes db (Ok p) = take (p.to - p.from) (drop p.from db)
shown_bytes db (Err r) = []

abbrev pub shown_from : Result Part Refusal → ℕ
shown_from (Ok p) = p.from
shown_from (Err r) = 0

-- "The caller's own bytes, no copy": the part lies in the buffer itself, at that place, and has these bytes.
abbrev pub OwnPart : Bor (List ℕ) → Result Part Refusal → Bor (List ℕ) → Type 0
OwnPart db answer part =
    (part.ref_ptr.0 ≡ db.ref_ptr.0) × (part.ref_ptr.1 ≡ db.ref_ptr.1 + shown_from answer) × (part.now ≡ shown_bytes db.now answer)
