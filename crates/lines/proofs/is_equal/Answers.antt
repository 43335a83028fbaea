-- `lines::is_equal` meets its contract: the first k bytes of the name are those passed, so what is left of it decides.
use mathlib.Core.Path.{refl, sym}
use native.Mathlib.Omega.{arith}
use Rattle.laws.proofs.TextSteps as Laws
use Rattle.spec.specs.Lines.{line_text, first_name}
use Rattle.spec.specs.Lists.{upto}
use Rattle.laws.proofs.TextSteps.{rest}
use Rattle.lines.proofs.is_equal.Goals as goal

pub loop-b-init : goal.loop-b-init
unfolding rest
loop-b-init c = (omega arith, refl)

pub returns-in-10 : goal.returns-in-10
returns-in-10 c =
    let p = c.in-Some.ensures in
    rw (c.loop-b.invariant.1, p.0, Laws.name-end _ _ _ c.in-10.is) (Laws.same_nil _ _ (omega arith))

pub returns-in_default-2-2 : goal.returns-in_default-2-2
returns-in_default-2-2 c =
    let p = c.in-Some.ensures in
    rw (c.loop-b.invariant.1, p.0, Laws.name_on _ _ _ c.in_default.in_default-own.rest.1)
    (sym (Laws.same-short _ _ _ _ (omega arith)))

pub returns-in-None : goal.returns-in-None
unfolding first_name upto line_text
returns-in-None c =
    let p = c.in-None.ensures in
    rw (c.loop-b.invariant.1, p) (Laws.same_nil _ _ (omega arith))
