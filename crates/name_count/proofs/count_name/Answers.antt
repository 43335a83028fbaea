-- `name_count::count_name` meets its contract: a name of another length is another name.
use mathlib.Core.Path.{sym, ◌∙◌}
use native.Mathlib.Omega.{arith}
use borrow.Author.Tests.{eqb-true, eqb-false}
use Rattle.spec.specs.Lines.{text_at, line_text, first_name}
use Rattle.name_count.proofs.Counting.{other_name, like_name}
use Rattle.name_count.proofs.count_name.Goals as goal

pub returns-then-not-has_length : goal.returns-then-not-has_length
returns-then-not-has_length c =
    let w = other_name _ _ (eqb-false _ _ (sym c.has_length.ensures ∙ c.if-not-has_length.true)) in
    (sym w.0, omega (arith, w.1))

pub overflow_add-result : goal.overflow_add-result
overflow_add-result c =
    let a = c.args in
    let w = like_name a.name.now (first_name (line_text (text_at a.s.now a.at)))
    (eqb-true _ _ (sym c.has_length.ensures ∙ c.if-not-has_length.false)) in
    omega (arith, c.requires, w.1)

pub returns : goal.returns
returns c =
    let w = like_name _ _ (eqb-true _ _ (sym c.has_length.ensures ∙ c.if-not-has_length.false)) in
    (c.is_equal.ensures ∙ sym w.0, omega (arith, w.1))
