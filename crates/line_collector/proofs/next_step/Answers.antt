-- `line_collector::next_step` meets its contract.
use mathlib.Core.Path.{sym, ◌∙◌, ap}
use Prim.Native.Nat.{ℕ}
use native.Mathlib.Omega.{arith}
use lib.ListN.{drop}
use Rattle.spec.specs.Finder.{Feeding, feeding, fed}
use Rattle.line_collector.specs.Answers.{at, placed}
use Rattle.line_collector.proofs.Steps as Steps
use Rattle.line_collector.proofs.next_step.Goals as goal

pub returns-then-is_collected_only : goal.returns-then-is_collected_only
returns-then-is_collected_only c =
    let a = c.args in
    let o = c.is_collected_only.ensures c.if-is_collected_only.true in
    let e = c.collect_name.ensures in (
      e.0,
      e.1,
      ap (λ (n : ℕ). fed a.name.now (feeding n (at a.p.line a.text.now)) a.rest.now) o.0 ∙ e.2 a.name.now c.requires.0,
    )

pub returns : goal.returns
returns c =
    let a = c.args in
    let next = Steps.fed-next a.name.now a.rest.now (placed a.p a.text.now) 0 c.requires.1 in (
      omega arith,
      omega (arith, c.requires.1),
      next ∙ ap (λ (f : Feeding). fed a.name.now f (drop 1 a.rest.now)) (sym c.one_byte.ensures),
    )
