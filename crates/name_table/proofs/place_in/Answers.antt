-- `name_table::place_in` meets its contract: halving from `low` to `high` ends where all of it ends.
use native.Mathlib.Omega.{arith}
use mathlib.Core.Path.{refl}
use Rattle.name_table.proofs.Laws.{in_order, listed, halving_first, halving_up, halving_down, place-ended}
use Rattle.name_table.proofs.place_in.Goals as goal

pub loop-low-init : goal.loop-low-init
loop-low-init c = halving_first _ _

pub text_of-requires-clause-j_in_bounds : goal.text_of-requires-clause-j_in_bounds
text_of-requires-clause-j_in_bounds c = in_order _ _ _ _ c.requires.table

pub loop-low-preserved-then-is_before : goal.loop-low-preserved-then-is_before
loop-low-preserved-then-is_before c =
    let told = listed _ _ _ _ _ _ _ _ c.text_of.ensures c.is_before.ensures c.if-is_before.true in
    halving_up _ _ _ _ c.loop-low.invariant _ refl c.loop-low-test.true told

pub loop-low-preserved : goal.loop-low-preserved
loop-low-preserved c =
    let told = listed _ _ _ _ _ _ _ _ c.text_of.ensures c.is_before.ensures c.if-is_before.false in
    halving_down _ _ _ _ c.loop-low.invariant _ refl c.loop-low-test.true told

pub returns : goal.returns
returns c = (place-ended _ _ _ _ _ _ _ c.loop-low.invariant c.loop-low-test.false, omega arith)
