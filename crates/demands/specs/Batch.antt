-- Document 02, a batch of questions: "each answer must equal the same question put alone, given room".
use Rattle.std.specs.Prelude.{ℕ, ◌≡◌, List, [], ◌∷◌, eqb, length, Option, Some, None, Result, Ok, Err}
use Rattle.spec.specs.Choice.{pick}
use Rattle.spec.specs.Files.{Files}
use Rattle.spec.specs.Fields.{kind_of}
use Rattle.spec.specs.Batch.{answer_bytes, batch_outcome}
use Rattle.spec.specs.declared.Refusal.TheVariants.{BadId}
use Rattle.demands.specs.Demand3.{question, QuestionHasRoom, cut}
use Rattle.spec.specs.declared.Refusal.{Refusal}
use Rattle.spec.specs.declared.Kind.{Kind}

-- The questions of a buffer.
unfoldable pub questions : List ℕ → List (List ℕ)
questions [] = []
questions (a ∷ []) = []
questions (a ∷ b ∷ []) = []
questions (a ∷ b ∷ k ∷ []) = []
questions (a ∷ b ∷ k ∷ z ∷ qs) = (a ∷ b ∷ k ∷ z ∷ []) ∷ questions qs

-- The same question put alone: Flag, Number or String by its kind; "a bad id, kind or fourth byte is refused 2".
abbrev pub of_kind : Option Kind → Files → List ℕ → List ℕ → List ℕ → Result (Option ℕ) Refusal
of_kind (Some k) db name id lent = question k db name id lent
of_kind None db name id lent = Err BadId

unfoldable pub alone : Files → List ℕ → List ℕ → List ℕ → Result (Option ℕ) Refusal
alone db name [] lent = Err BadId
alone db name (a ∷ []) lent = Err BadId
alone db name (a ∷ b ∷ []) lent = Err BadId
alone db name (a ∷ b ∷ k ∷ []) lent = Err BadId
alone db name (a ∷ b ∷ k ∷ z ∷ l) lent = pick (eqb z 0) (of_kind (kind_of k) db name (a ∷ b ∷ []) lent) (Err BadId)

-- Each record is the answer to its question put alone, with any lent buffer in which there is room for it; and there are as many.
abbrev pub AnsweredAlone : Files → List ℕ → List (List ℕ) → List (List ℕ) → Type 0
AnsweredAlone db name [] [] = Unit {0}
AnsweredAlone db name [] (r ∷ rs) = ⊥
AnsweredAlone db name (q ∷ qs) [] = ⊥
AnsweredAlone db name (q ∷ qs) (r ∷ rs) =
    ((lent : List ℕ) → QuestionHasRoom (alone db name q lent) → r ≡ answer_bytes (alone db name q lent)) × AnsweredAlone db name qs rs

-- THE STATEMENT, of an accepted batch: as many answers as questions, each that of its question. Its proof is proofs/Batch.
abbrev pub BatchAnswers : Type 0
BatchAnswers = (db : Files) (name asked buffer : List ℕ) (n : ℕ) → (batch_outcome db name asked buffer).answer ≡ Ok n
    → (n ≡ length (questions asked)) × AnsweredAlone db name (questions asked) (cut 8 n (batch_outcome db name asked buffer).buffer)
