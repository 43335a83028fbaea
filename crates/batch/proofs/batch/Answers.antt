-- `batch::batch` meets its contract, test by test.
use mathlib.Core.Path.{◌∙◌, sym}
use native.Mathlib.Omega.{arith}
use Rattle.batch.proofs.Delivering.{ends-bad, name-bad, database_large, question_partial, room_missing, answers-put}
use Rattle.batch.proofs.batch.Goals as goal

pub returns-then-not-are_good_ends : goal.returns-then-not-are_good_ends
returns-then-not-are_good_ends c = ends-bad _ _ _ _ (sym c.are_good_ends.ensures ∙ c.if-not-are_good_ends.true)

pub returns-then-not-is_good_name : goal.returns-then-not-is_good_name
returns-then-not-is_good_name c =
    let ends = sym c.are_good_ends.ensures ∙ c.if-not-are_good_ends.false in
    name-bad _ _ _ _ ends (sym c.is_good_name.ensures ∙ c.if-not-is_good_name.true)

pub returns-then-db-gt-MOST_BYTES : goal.returns-then-db-gt-MOST_BYTES
returns-then-db-gt-MOST_BYTES c =
    let ends = sym c.are_good_ends.ensures ∙ c.if-not-are_good_ends.false in
    let good = sym c.is_good_name.ensures ∙ c.if-not-is_good_name.false in
    database_large _ _ _ _ ends good c.if-db-gt-MOST_BYTES.true

pub returns-then-questions-ne0 : goal.returns-then-questions-ne0
returns-then-questions-ne0 c =
    let ends = sym c.are_good_ends.ensures ∙ c.if-not-are_good_ends.false in
    let good = sym c.is_good_name.ensures ∙ c.if-not-is_good_name.false in
    question_partial _ _ _ _ ends good (omega arith) c.if-questions-ne0.true

pub returns-then-n-out : goal.returns-then-n-out
returns-then-n-out c =
    let ends = sym c.are_good_ends.ensures ∙ c.if-not-are_good_ends.false in
    let good = sym c.is_good_name.ensures ∙ c.if-not-is_good_name.false in
    room_missing _ _ _ _ ends good (omega arith) (omega arith)
    c.if-n-out.true

pub answer_all-requires : goal.answer_all-requires
answer_all-requires c =
    let ends = sym c.are_good_ends.ensures ∙ c.if-not-are_good_ends.false in
    let good = sym c.is_good_name.ensures ∙ c.if-not-is_good_name.false in
    record { ends_value = (ends, good, omega arith); questions_in_bounds = omega arith }

pub returns : goal.returns
returns c =
    let ends = sym c.are_good_ends.ensures ∙ c.if-not-are_good_ends.false in
    let good = sym c.is_good_name.ensures ∙ c.if-not-is_good_name.false in
    answers-put _ _ _ _ ends good (omega arith) (omega arith) _ (omega arith) c.answer_all.ensures
