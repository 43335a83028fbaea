-- Each answer of a batch is that of the same question put alone.
-- Assumes nothing.
use Rattle.std.specs.Prelude.{Option, Some, None, Result, Ok, Err}
use Prim.Native.Nat.{ℕ, ◌/◌, ◌%◌}
use mathlib.Core.Path.{◌≡◌, refl, sym, ap, ◌∙◌}
use mathlib.Core.Bool.{Bool, true, false}
use mathlib.Core.List.{List, [], ◌∷◌, ◌++◌}
use native.Mathlib.Omega.{arith}
use lib.Dec.{eqb, leb}
use lib.ListN.{length, take, drop}
use Rattle.spec.specs.Choice.{pick, both}
use Rattle.spec.specs.Refusals.{id_bytes, good_id, good_name, too_large}
use Rattle.spec.specs.Files.{Files, good_ends, contents}
use Rattle.spec.specs.Fields.{kind_of}
use Rattle.spec.specs.Chain.{Terminal, resolve}
use Rattle.spec.specs.Answers.{Outcome, keeping, put}
use Rattle.spec.specs.Questions.{terminal_of, terminal_for, answer_for}
use Rattle.spec.specs.Batch.{kind_answer, batch_answer, answer_bytes, batch_answers, batch_outcome}
use Rattle.spec.specs.declared.Refusal.{Refusal}
use Rattle.spec.specs.declared.Refusal.TheVariants.{BadName, BadId, DatabaseTooLarge, NoRoom, PartialQuestion, BadEnds}
use Rattle.demands.specs.Demand3.{QuestionHasRoom, cut}
use Rattle.demands.proofs.Demand3.{question-answer}
use Rattle.demands.specs.Batch.{questions, of_kind, alone, AnsweredAlone, BatchAnswers}
use Rattle.spec.specs.declared.Kind.{Kind}

-- ---- one question

module _ (db : Files) (name : List ℕ) (ends : good_ends db ≡ true) (good : good_name name ≡ true) (small : too_large db.bytes ≡ false) where
  abbrev walked : Terminal
  walked = resolve (contents db) name

  -- The terminal of a question with this id: 2, or what the walk gives.
  asked : (a b : ℕ) → terminal_for db name (a ∷ b ∷ []) ≡ pick (id_bytes a b) walked (Terminal.refused BadId)
  unfolding terminal_for terminal_of good_id
  asked a b = rw (ends, good, small)

  by_kind : (a b : ℕ) (n : Option Kind) (lent : List ℕ) → QuestionHasRoom (of_kind n db name (a ∷ b ∷ []) lent)
      → pick (id_bytes a b) (kind_answer n (a ∷ b ∷ []) walked) (Err BadId) ≡ of_kind n db name (a ∷ b ∷ []) lent
  unfolding answer_for
  by_kind a b (Some k) lent room = go (id_bytes a b) refl ∙ sym (question-answer k db name (a ∷ b ∷ []) lent room)
    where
      go : (t : Bool) → id_bytes a b ≡ t
          → pick t (answer_for (a ∷ b ∷ []) k walked) (Err BadId) ≡ answer_for (a ∷ b ∷ []) k (terminal_for db name (a ∷ b ∷ []))
      go true e = rw (asked a b, e)
      go false e = rw (asked a b, e)
  by_kind a b None lent room = go (id_bytes a b)
    where
      go : (t : Bool) → ◌≡◌ {A = Result (Option ℕ) Refusal} (pick t (Err BadId) (Err BadId)) (Err BadId)
      go true = refl
      go false = refl

  one_answer : (a b k z : ℕ) (lent : List ℕ) → QuestionHasRoom (alone db name (a ∷ b ∷ k ∷ z ∷ []) lent)
      → batch_answer walked a b k z ≡ alone db name (a ∷ b ∷ k ∷ z ∷ []) lent
  unfolding alone batch_answer
  one_answer a b k z lent = go (eqb z 0)
    where
      both_right : (x : Bool) (r s : Result (Option ℕ) Refusal) → pick (both x true) r s ≡ pick x r s
      both_right true r s = refl
      both_right false r s = refl

      both_wrong : (x : Bool) (r s : Result (Option ℕ) Refusal) → pick (both x false) r s ≡ s
      both_wrong true r s = refl
      both_wrong false r s = refl

      go : (t : Bool) → QuestionHasRoom (pick t (of_kind (kind_of k) db name (a ∷ b ∷ []) lent) (Err BadId))
          → pick (both (id_bytes a b) t) (kind_answer (kind_of k) (a ∷ b ∷ []) walked) (Err BadId)
          ≡ pick t (of_kind (kind_of k) db name (a ∷ b ∷ []) lent) (Err BadId)
      go true room = both_right (id_bytes a b) _ _ ∙ by_kind a b (kind_of k) lent room
      go false room = both_wrong (id_bytes a b) _ _

  -- ---- all questions

  first_eight : (x : Result (Option ℕ) Refusal) (l : List ℕ) → (take 8 (answer_bytes x ++ l) ≡ answer_bytes x) × (drop 8 (answer_bytes x ++ l) ≡ l)
  first_eight (Ok (Some v)) l = (refl, refl)
  first_eight (Ok None) l = (refl, refl)
  first_eight (Err r) l = (refl, refl)

  append_twice : (x : Result (Option ℕ) Refusal) (l m : List ℕ) → answer_bytes x ++ l ++ m ≡ answer_bytes x ++ (l ++ m)
  append_twice (Ok (Some v)) l m = refl
  append_twice (Ok None) l m = refl
  append_twice (Err r) l m = refl

  all-answers : (qs rest : List ℕ) → AnsweredAlone db name (questions qs) (cut 8 (length (questions qs)) (batch_answers walked qs ++ rest))
  unfolding questions batch_answers cut
  all-answers [] rest = tt
  all-answers (a ∷ []) rest = tt
  all-answers (a ∷ b ∷ []) rest = tt
  all-answers (a ∷ b ∷ k ∷ []) rest = tt
  all-answers (a ∷ b ∷ k ∷ z ∷ qs) rest =
      let x = batch_answer walked a b k z in
      let more = batch_answers walked qs in
      let e = first_eight x (more ++ rest) in
      rw (append_twice x more rest, e.0, e.1) (λ lent room. ap answer_bytes (one_answer a b k z lent room), all-answers qs rest)

-- ---- the count, and the whole

count-questions : (qs : List ℕ) → length qs / 4 ≡ length (questions qs)
unfolding questions
count-questions [] = omega arith
count-questions (a ∷ []) = omega arith
count-questions (a ∷ b ∷ []) = omega arith
count-questions (a ∷ b ∷ k ∷ []) = omega arith
count-questions (a ∷ b ∷ k ∷ z ∷ qs) = let ih = count-questions qs in omega (arith, ih)

not_counted : {A : Type 0} (r : Refusal) (n : ℕ) → Err r ≡ Ok n → A
not_counted r n e = let z : ◌≡◌ {A = ℕ} 0 1 = cc in absurd (omega arith)

counted : (l buffer : List ℕ) (m n : ℕ) → (put l m buffer).answer ≡ Ok n → (m ≡ n) × ((put l m buffer).buffer ≡ l ++ drop (length l) buffer)
unfolding put
counted l buffer m n = go (leb (length l) (length buffer))
  where
    full : Outcome (Result ℕ Refusal)
    full = record { answer = Ok m; buffer = l ++ drop (length l) buffer }

    kept : Outcome (Result ℕ Refusal)
    kept = keeping (Err NoRoom) buffer

    go : (t : Bool) → (pick t full kept).answer ≡ Ok n → (m ≡ n) × ((pick t full kept).buffer ≡ l ++ drop (length l) buffer)
    go true e = (cc, refl)
    go false e = not_counted NoRoom n e

pub batch-answers : BatchAnswers
unfolding batch_outcome
batch-answers db name asked buffer n = by-ends (good_ends db) refl
  where
    l : List ℕ
    l = batch_answers (resolve (contents db) name) asked

    refusing : Refusal → Outcome (Result ℕ Refusal)
    refusing r = keeping (Err r) buffer

    answered : Outcome (Result ℕ Refusal)
    answered = pick (eqb (length asked % 4) 0) (put l (length asked / 4) buffer) (refusing PartialQuestion)

    Goal : Outcome (Result ℕ Refusal) → Type 0
    Goal o = o.answer ≡ Ok n → (n ≡ length (questions asked)) × AnsweredAlone db name (questions asked) (cut 8 n o.buffer)

    by_length : good_ends db ≡ true → good_name name ≡ true → too_large db.bytes ≡ false → (t : Bool)
        → Goal (pick t (put l (length asked / 4) buffer) (refusing PartialQuestion))
    by_length ends good small true h =
        let w = counted l buffer (length asked / 4) n h in
        let e : n ≡ length (questions asked) = sym w.0 ∙ count-questions asked in
        (e, rw (e, w.1) (all-answers db name ends good small asked (drop (length l) buffer)))
    by_length ends good small false h = not_counted PartialQuestion n h

    by_size : good_ends db ≡ true → good_name name ≡ true → (t : Bool) → too_large db.bytes ≡ t → Goal (pick t (refusing DatabaseTooLarge) answered)
    by_size ends good true e h = not_counted DatabaseTooLarge n h
    by_size ends good false e h = by_length ends good e (eqb (length asked % 4) 0) h

    named : Outcome (Result ℕ Refusal)
    named = pick (good_name name) (pick (too_large db.bytes) (refusing DatabaseTooLarge) answered) (refusing BadName)

    by_name : good_ends db ≡ true → (t : Bool) → good_name name ≡ t
        → Goal (pick t (pick (too_large db.bytes) (refusing DatabaseTooLarge) answered) (refusing BadName))
    by_name ends true e h = by_size ends e (too_large db.bytes) refl h
    by_name ends false e h = not_counted BadName n h

    by-ends : (t : Bool) → good_ends db ≡ t → Goal (pick t named (refusing BadEnds))
    by-ends true e h = by_name e (good_name name) refl h
    by-ends false e h = not_counted BadEnds n h
