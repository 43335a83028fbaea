-- Document 02, "a screenful of questions at once": from the inputs and the lent buffer to the answer and the buffer afterwards. A question is
-- four bytes, an answer eight.
use Rattle.std.specs.Prelude.{ℕ, ◌/◌, ◌%◌, List, [], ◌∷◌, ◌++◌, eqb, length, Option, Some, None, Result, Ok, Err}
use Rattle.spec.specs.Choice.{pick, both}
use Rattle.spec.specs.Refusals.{refusal_number, id_bytes, good_name, too_large}
use Rattle.spec.specs.Files.{Files, good_ends, contents}
use Rattle.spec.specs.Fields.{kind_of}
use Rattle.spec.specs.Chain.{Terminal, resolve}
use Rattle.spec.specs.Answers.{Outcome, keeping, put, Report, written_report}
use Rattle.spec.specs.Questions.{answer_for}
use Rattle.spec.specs.Listing.{four_bytes}
use Rattle.spec.specs.declared.Refusal.TheVariants.{BadName, BadId, DatabaseTooLarge, PartialQuestion, BadEnds}
use Rattle.spec.specs.declared.Refusal.{Refusal}
use Rattle.spec.specs.declared.Kind.{Kind}

-- ---- one question of a terminal: "id, kind 1 to 3, a zero"

-- The value is "as in a listing record": of a string the count of its decoded bytes.
abbrev pub kind_answer : Option Kind → List ℕ → Terminal → Result (Option ℕ) Refusal
kind_answer (Some k) id t = answer_for id k t
kind_answer None id t = Err BadId

-- "A bad id, kind or fourth byte is refused 2 in its own answer, before what the walk refuses there."
unfoldable pub batch_answer : Terminal → ℕ → ℕ → ℕ → ℕ → Result (Option ℕ) Refusal
batch_answer t a b k z = pick (both (id_bytes a b) (eqb z 0)) (kind_answer (kind_of k) (a ∷ b ∷ []) t) (Err BadId)

-- "Status (0 present, 1 absent, 2 refused), refusal number (0 unless refused), two zeros, and the value as in a listing record, zero
-- unless present."
abbrev pub answer_bytes : Result (Option ℕ) Refusal → List ℕ
answer_bytes (Ok (Some v)) = 0 ∷ 0 ∷ 0 ∷ 0 ∷ four_bytes v
answer_bytes (Ok None) = 1 ∷ 0 ∷ 0 ∷ 0 ∷ four_bytes 0
answer_bytes (Err r) = 2 ∷ refusal_number r ∷ 0 ∷ 0 ∷ four_bytes 0

-- ---- all of them, in order

unfoldable pub batch_answers : Terminal → List ℕ → List ℕ
batch_answers t [] = []
batch_answers t (a ∷ []) = []
batch_answers t (a ∷ b ∷ []) = []
batch_answers t (a ∷ b ∷ k ∷ []) = []
batch_answers t (a ∷ b ∷ k ∷ z ∷ qs) = answer_bytes (batch_answer t a b k z) ++ batch_answers t qs

-- "The whole call is refused with 1, 3, 15 (a question buffer that isn't a multiple of four) and 9, in that order"; 16 comes "before all
-- others". One walk for all; the number that is reported is that of the answers.
unfoldable pub batch_outcome : Files → List ℕ → List ℕ → List ℕ → Outcome (Result ℕ Refusal)
batch_outcome db name questions buffer =
    pick (good_ends db)
    (pick (good_name name)
    (pick (too_large db.bytes) (keeping (Err DatabaseTooLarge) buffer)
    (pick (eqb (length questions % 4) 0)
    (put (batch_answers (resolve (contents db) name) questions) (length questions / 4) buffer)
    (keeping (Err PartialQuestion) buffer)))
    (keeping (Err BadName) buffer))
    (keeping (Err BadEnds) buffer)

abbrev pub batch_report : Files → List ℕ → List ℕ → List ℕ → Report
batch_report db name questions buffer = written_report (batch_outcome db name questions buffer).answer
