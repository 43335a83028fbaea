-- `padding::read_digits` meets its contract. The invariant: the digits from `at` on are those up to `i`, whose value is `value`, and those
-- after it.
use native.Mathlib.Omega.{arith}
use mathlib.Core.Path.{sym, ◌∙◌}
use lib.ListN.{get_or}
use Rattle.laws.proofs.DigitBytes.{digit_high}
use Rattle.padding.proofs.DigitSteps.{so_far_none, so_far_more, so_far_other, so_far_end, so_far_small}
use Rattle.padding.proofs.read_digits.Goals as goal

pub loop-i-init : goal.loop-i-init
loop-i-init c = so_far_none c.args.s.now c.args.at c.requires

pub returns-then-not-is_digit : goal.returns-then-not-is_digit
returns-then-not-is_digit c =
    let l = c.loop-i in
    so_far_other c.args.s.now c.args.at l.value l.i l.invariant (omega (arith, c.min-limit.ensures)) (sym c.is_digit.ensures ∙ c.if-not-is_digit.true)

pub overflow_mul-value : goal.overflow_mul-value
overflow_mul-value c = let small = so_far_small _ _ _ _ c.loop-i.invariant in omega arith

pub overflow_add-value : goal.overflow_add-value
overflow_add-value c =
    let yes = sym c.is_digit.ensures ∙ c.if-not-is_digit.false in
    let small = so_far_small _ _ _ _ c.loop-i.invariant in
    let high = digit_high 10 (get_or c.args.s.now c.loop-i.i 0) yes in
    omega arith

pub loop-i-preserved : goal.loop-i-preserved
loop-i-preserved c =
    let l = c.loop-i in
    let limit = c.min-limit.ensures in
    so_far_more c.args.s.now c.args.at l.value l.i l.invariant (omega arith) (omega arith) (sym c.is_digit.ensures ∙ c.if-not-is_digit.false)

pub returns : goal.returns
returns c =
    let l = c.loop-i in
    let limit = c.min-limit.ensures in
    let start = c.requires in
    so_far_end c.args.s.now c.args.at l.value l.i l.invariant _ (omega (arith, l.auto.i-end)) (λ k. omega (arith, limit))
