-- `line_collector::pass_line` meets its contract.
use mathlib.Core.Path.{sym, ◌∙◌, ap}
use Prim.Native.Nat.{ℕ}
use native.Mathlib.Omega.{arith}
use lib.ListN.{drop}
use Rattle.spec.specs.Finder.{feeding, fed}
use Rattle.line_collector.specs.Answers.{at}
use Rattle.line_collector.proofs.Steps as Steps
use Rattle.line_collector.proofs.pass_line.Goals as goal

pub returns-then-to-gt0 : goal.returns-then-to-gt0
returns-then-to-gt0 c =
    let a = c.args in
    let to = c.next_newline-to.result in
    let e = c.next_newline-to.ensures in (
      e.0,
      λ name text. Steps.fed-to name a.p.line text a.rest.now a.p.held 0 to c.requires c.if-to-gt0.true e.0 e.1
          ∙ ap (λ (n : ℕ). fed name (feeding n (at a.p.line text)) (drop to a.rest.now)) (sym c.holds-held.ensures),
    )

pub returns-then-is_comment_next : goal.returns-then-is_comment_next
returns-then-is_comment_next c =
    let a = c.args in
    let o = c.is_comment_next.ensures c.if-is_comment_next.true in (
      omega (arith, o.2),
      λ name text. Steps.fed-comment name a.p.line text a.rest.now a.p.held 0 c.requires o.0 o.1 o.2 o.3,
    )
