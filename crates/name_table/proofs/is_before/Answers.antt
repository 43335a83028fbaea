-- `name_table::is_before` meets its contract: what is compared stands from the place i on in both texts.
use mathlib.Core.Path.{◌∙◌, sym}
use native.Mathlib.Omega.{arith}
use Rattle.name_table.proofs.Laws.{before-whole, before-none, before_more, before_differs, before_on}
use Rattle.name_table.proofs.is_before.Goals as goal

pub loop-i-init : goal.loop-i-init
loop-i-init c = before-whole _ _

pub returns-then-i-a : goal.returns-then-i-a
returns-then-i-a c = sym (c.loop-i.invariant ∙ before_more _ _ _ c.if-i-a.true c.loop-i-test.true)

pub returns-then-a-i : goal.returns-then-a-i
returns-then-a-i c = sym (c.loop-i.invariant ∙ before_differs _ _ _ (omega (arith, c.if-i-a.false)) c.loop-i-test.true c.if-a-i.true)

pub loop-i-preserved : goal.loop-i-preserved
loop-i-preserved c = c.loop-i.invariant ∙ before_on _ _ _ (omega arith) c.loop-i-test.true c.if-a-i.false

pub returns : goal.returns
returns c = sym (c.loop-i.invariant ∙ before-none _ _ _ c.loop-i-test.false)
