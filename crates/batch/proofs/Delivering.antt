-- A batch by its tests in order.
-- Assumes nothing.
use Rattle.std.specs.Prelude.{Result, Ok, Err}
use Prim.Native.Nat.{ℕ, ◌/◌, ◌%◌, ◌≤◌, ◌<◌}
use mathlib.Core.Path.{◌≡◌, refl, ◌∙◌}
use mathlib.Core.Bool.{true, false}
use mathlib.Core.List.{List}
use native.Mathlib.Omega.{arith}
use borrow.Author.Tests.{eq-eqb, ne_eqb, lt-ltb, le-ltb}
use lib.ListN.{length}
use lib.Seq.{sets}
use Rattle.spec.specs.Refusals.{good_name, too_large}
use Rattle.spec.specs.Files.{Files, good_ends, contents}
use Rattle.spec.specs.Chain.{resolve}
use Rattle.spec.specs.Answers.{Outcome, put, written_report}
use Rattle.spec.specs.Batch.{batch_answers, batch_outcome}
use Rattle.spec.specs.declared.Refusal.TheVariants.{BadName, DatabaseTooLarge, PartialQuestion, NoRoom, BadEnds}
use Rattle.laws.proofs.Buffers.{put-fits, put_full}
use Rattle.laws.proofs.Stores.{stored_front}
use Rattle.laws.proofs.BatchAnswers.{answers-size}
use Rattle.spec.specs.declared.Refusal.{Refusal}

-- what `batch` promises of an answer and the buffer
abbrev Delivered : Outcome (Result ℕ Refusal) → Result ℕ Refusal → List ℕ → Type 0
Delivered o r after = (r ≡ o.answer) × (after ≡ o.buffer) × (written_report r ≡ written_report o.answer)

delivered : (o : Outcome (Result ℕ Refusal)) (r : Result ℕ Refusal) (after : List ℕ) → o ≡ record { answer = r; buffer = after } → Delivered o r after
delivered o r after e = rw e (refl, refl, refl)

module _ (db : Files) (name questions out : List ℕ) where
  abbrev outcome : Outcome (Result ℕ Refusal)
  outcome = batch_outcome db name questions out

  pub ends-bad : good_ends db ≡ false → Delivered outcome (Err BadEnds) out
  unfolding batch_outcome
  ends-bad e = delivered outcome (Err BadEnds) out (rw e)

  pub name-bad : good_ends db ≡ true → good_name name ≡ false → Delivered outcome (Err BadName) out
  unfolding batch_outcome
  name-bad ends e = delivered outcome (Err BadName) out (rw (ends, e))

  module _ (ends : good_ends db ≡ true) (good : good_name name ≡ true) where
    pub database_large : 1048576 < length db.bytes → Delivered outcome (Err DatabaseTooLarge) out
    unfolding batch_outcome too_large
    database_large h = delivered outcome (Err DatabaseTooLarge) out (rw (ends, good, lt-ltb 1048576 (length db.bytes) h))

    module _ (small : length db.bytes ≤ 1048576) where
      pub question_partial : (length questions % 4 ≡ 0 → ⊥) → Delivered outcome (Err PartialQuestion) out
      unfolding batch_outcome too_large
      question_partial h =
          delivered outcome (Err PartialQuestion) out (rw (ends, good, le-ltb 1048576 (length db.bytes) small, ne_eqb (length questions % 4) 0 h))

      module _ (whole : length questions % 4 ≡ 0) where
        abbrev answers : List ℕ
        answers = batch_answers (resolve (contents db) name) questions

        outcome_put : outcome ≡ put answers (length questions / 4) out
        unfolding batch_outcome too_large
        outcome_put = rw (ends, good, le-ltb 1048576 (length db.bytes) small, eq-eqb (length questions % 4) 0 whole)

        pub room_missing : length out / 8 < length questions / 4 → Delivered outcome (Err NoRoom) out
        room_missing h =
            delivered outcome (Err NoRoom) out
            (outcome_put ∙ put_full answers (length questions / 4) out (omega (arith, answers-size (resolve (contents db) name) questions)))

        pub answers-put : (after : List ℕ) → length questions / 4 ≤ length out / 8 → after ≡ sets out 0 answers
            → Delivered outcome (Ok (length questions / 4)) after
        answers-put after h s =
            let room : length answers ≤ length out = omega (arith, answers-size (resolve (contents db) name) questions) in
            delivered outcome (Ok (length questions / 4)) after
            (outcome_put ∙ put-fits answers (length questions / 4) out room ∙ rw (s, stored_front out answers room))
