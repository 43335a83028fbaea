-- `questions::id_refusal` meets its contract, test by test.
use mathlib.Core.Path.{◌∙◌, sym}
use Rattle.questions.specs.Answers.{id_refusal}
use Rattle.questions.proofs.id_refusal.Goals as goal

pub returns-then-not-are_good_ends : goal.returns-then-not-are_good_ends
unfolding id_refusal
returns-then-not-are_good_ends c = rw (sym c.are_good_ends.ensures ∙ c.if-not-are_good_ends.true)

pub returns-then-not-is_good_name : goal.returns-then-not-is_good_name
unfolding id_refusal
returns-then-not-is_good_name c =
    let g = sym c.are_good_ends.ensures ∙ c.if-not-are_good_ends.false in
    rw (g, sym c.is_good_name.ensures ∙ c.if-not-is_good_name.true)

pub returns : goal.returns
unfolding id_refusal
returns c =
    let g = sym c.are_good_ends.ensures ∙ c.if-not-are_good_ends.false in
    rw (g, sym c.is_good_name.ensures ∙ c.if-not-is_good_name.false)
