-- Calls on known bytes, and what document 01 states of them: the vocabulary of Examples and Rulings.
use Rattle.std.specs.Prelude.{ℕ, ◌≡◌, Bool, List, [], ◌∷◌, ◌++◌, map, length, replicate}
use Prim.Native.Char.{code}
use Prim.Native.String.{String as Chars}
use Rattle.spec.specs.Files.{files, alone}
use Rattle.spec.specs.Answers.{Outcome, keeping, Report, answer_report, written_report, repaired_report, filled_report}
use Rattle.spec.specs.Questions.{show_report, flag_report, number_report, string_outcome}
use Rattle.spec.specs.Listing.{list_outcome, flat_outcome}
use Rattle.spec.specs.Batch.{batch_outcome}
use Rattle.spec.specs.Search.{search_report}
use Rattle.spec.specs.Repair.{RepairOutcome, flattened, repair_outcome}
use Rattle.spec.specs.Sending.{send_outcome, send_at_outcome, fill_outcome, pad_outcome}

-- The bytes of a text in ASCII.
abbrev pub ascii : Chars → List ℕ
ascii Chars.[] = []
ascii (Chars.◌∷◌ c s) = code c ∷ ascii s

-- A call. Those with output have a buffer of so many bytes (the last number), all 255. A batch has its questions' bytes. Send is for so many
-- lines at a speed, with the pad byte 0; Send at for a row and a column, with a back and an up string, for one line at speed 0, or for so many
-- lines at a speed. Repair has
-- two buffers, the second for its records; they are stated one after the other. Those that end in `In` are about files with these ends, the
-- others about a single file.
pub data Call : Type 0 where
  show : Chars → Chars → Call
  flag : Chars → Chars → Chars → Call
  number : Chars → Chars → Chars → Call
  string : Chars → Chars → Chars → ℕ → Call
  list : Chars → Chars → ℕ → Call
  flat : Chars → Chars → ℕ → Call
  batch : Chars → Chars → List ℕ → ℕ → Call
  show_in : Chars → List ℕ → Chars → Call
  flag_in : Chars → List ℕ → Chars → Chars → Call
  list_in : Chars → List ℕ → Chars → ℕ → Call
  flat_in : Chars → List ℕ → Chars → ℕ → Call
  batch_in : Chars → List ℕ → Chars → List ℕ → ℕ → Call
  search_in : Chars → List ℕ → Chars → Call
  repair : Chars → ℕ → ℕ → Call
  send : List ℕ → ℕ → ℕ → ℕ → Call
  send_at : List ℕ → ℕ → ℕ → List ℕ → List ℕ → ℕ → Call
  send_at_speed : List ℕ → ℕ → ℕ → List ℕ → List ℕ → ℕ → ℕ → ℕ → Call
  fill : List ℕ → ℕ → ℕ → List ℕ → List ℕ → ℕ → Call
  pad : ℕ → Bool → List ℕ → ℕ → ℕ → ℕ → Call

abbrev pub reported : {A : Type 0} → (A → Report) → Outcome A → Outcome Report
reported f o = record { answer = f o.answer; buffer = o.buffer }

abbrev pub lent : ℕ → List ℕ
lent room = replicate room 255

abbrev pub both_buffers : RepairOutcome → Outcome Report
both_buffers o = record { answer = repaired_report o.answer; buffer = o.text ++ o.records }

-- The report of the answer, and the buffer afterwards.
abbrev pub computed : Call → Outcome Report
computed (show db name) = keeping (show_report (alone (ascii db)) (ascii name)) []
computed (flag db name id) = keeping (flag_report (alone (ascii db)) (ascii name) (ascii id)) []
computed (number db name id) = keeping (number_report (alone (ascii db)) (ascii name) (ascii id)) []
computed (string db name id room) = reported answer_report (string_outcome (alone (ascii db)) (ascii name) (ascii id) (lent room))
computed (list db name room) = reported written_report (list_outcome (alone (ascii db)) (ascii name) (lent room))
computed (flat db name room) = reported written_report (flat_outcome (alone (ascii db)) (ascii name) (lent room))
computed (batch db name questions room) = reported written_report (batch_outcome (alone (ascii db)) (ascii name) questions (lent room))
computed (show_in db ends name) = keeping (show_report (files (ascii db) ends) (ascii name)) []
computed (flag_in db ends name id) = keeping (flag_report (files (ascii db) ends) (ascii name) (ascii id)) []
computed (list_in db ends name room) = reported written_report (list_outcome (files (ascii db) ends) (ascii name) (lent room))
computed (flat_in db ends name room) = reported written_report (flat_outcome (files (ascii db) ends) (ascii name) (lent room))
computed (batch_in db ends name questions room) = reported written_report (batch_outcome (files (ascii db) ends) (ascii name) questions (lent room))
computed (search_in db ends name) = keeping (search_report (files (ascii db) ends) (ascii name)) []
computed (repair db room more) = both_buffers (repair_outcome (ascii db) (lent room) (lent more))
computed (send cmd lines speed room) = reported written_report (send_outcome cmd lines speed 0 (lent room))
computed (send_at cmd row column back up room) = reported written_report (send_at_outcome cmd row column back up 1 0 0 (lent room))
computed (send_at_speed cmd row column back up lines speed room) = reported written_report (send_at_outcome cmd row column back up lines speed 0 (lent room))
computed (fill cmd row column back up room) = reported filled_report (fill_outcome cmd row column back up (lent room))
computed (pad delay star bytes lines speed room) = reported written_report (pad_outcome delay star bytes lines speed 0 (lent room))

-- What is stated: the values that are reported, the bytes that are written and after them those of the buffer that stay; or a refusal, and
-- all stay.
abbrev pub reports : List ℕ → List ℕ → ℕ → Outcome Report
reports values bytes rest = record { answer = record { refusal = 0; values = values }; buffer = bytes ++ lent rest }

abbrev pub refuses : ℕ → ℕ → Outcome Report
refuses n rest = record { answer = record { refusal = n; values = [] }; buffer = lent rest }

-- The four bytes of a question, and the eight of an answer: present with a value of one byte, absent, or refused.
abbrev pub asks : Chars → ℕ → List ℕ
asks id k = ascii id ++ k ∷ 0 ∷ []

abbrev pub present : ℕ → List ℕ
present v = 0 ∷ 0 ∷ 0 ∷ 0 ∷ 0 ∷ 0 ∷ 0 ∷ v ∷ []

abbrev pub absent : List ℕ
absent = 1 ∷ 0 ∷ 0 ∷ 0 ∷ 0 ∷ 0 ∷ 0 ∷ 0 ∷ []

abbrev pub refused_with : ℕ → List ℕ
refused_with n = 2 ∷ n ∷ 0 ∷ 0 ∷ 0 ∷ 0 ∷ 0 ∷ 0 ∷ []

-- A repair that writes this text and these records, and leaves so many bytes of each buffer.
abbrev pub mends : Chars → ℕ → List (List ℕ) → ℕ → Outcome Report
mends text rest records more = reports (length (ascii text) ∷ length records ∷ []) (ascii text ++ lent rest ++ flattened records) more

pub record Example : Type 0 where
  pub call : Call
  pub stated : Outcome Report

abbrev pub example : Call → Outcome Report → Example
example c o = record { call = c; stated = o }

-- Each call of a list gives what is stated of it.
abbrev pub AllHold : List Example → Type 0
AllHold es = map (λ e. computed e.call) es ≡ map (λ e. e.stated) es
