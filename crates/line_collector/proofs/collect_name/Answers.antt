-- `line_collector::collect_name` meets its contract.
use mathlib.Core.Path.{◌≡◌, sym, ◌∙◌, ap}
use mathlib.Core.Bool.{true}
use Prim.Native.Nat.{ℕ, ◌+◌}
use native.Mathlib.Omega.{arith}
use lib.ListN.{drop, get_or}
use Rattle.spec.specs.Refusals.{name_byte}
use Rattle.spec.specs.Finder.{Collecting, Feeding, feeding, fed}
use Rattle.line_collector.specs.Answers.{at}
use Rattle.line_collector.proofs.Steps as Steps
use Rattle.line_collector.proofs.collect_name.Goals as goal

pub loop-i-preserved : goal.loop-i-preserved
loop-i-preserved c =
    let l = c.loop-i in
    let s = c.args.rest.now in
    let b : ℕ = get_or s l.i 0 in
    let plain : name_byte b ≡ true = sym c.is_name_byte.ensures ∙ c.if-not-is_name_byte.false in
    let e = c.collect_byte-line.ensures in (
      λ name h. l.invariant.0 name h
          ∙ Steps.fed-next name s (feeding 0 (at l.line l.text)) l.i (omega arith)
          ∙ ap (λ (f : Feeding). fed name f (drop (l.i + 1) s))
          (Steps.other_byte name l.line l.text b h l.invariant.1 plain ∙ ap (feeding 0) (sym e)),
      rw (ap (λ (x : Collecting). x.line) e) (Steps.other_stays l.line l.text b l.invariant.1),
    )
