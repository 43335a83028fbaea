-- `fields::read_link_name` meets its contract: `k` good bytes were passed up to the place `i`, so the rest decides.
use native.Mathlib.Omega.{arith}
use mathlib.Core.Path.{◌∙◌, sym}
use Rattle.field_bounds.proofs.FieldBytes.{passed_over}
use Rattle.field_bounds.proofs.LineBounds.{passed_bound}
use Rattle.fields.proofs.Names.{named_long, named_not, named_on, named_empty, named_done}
use Rattle.fields.proofs.Contents.{link-good, link-bad}
use Rattle.fields.proofs.read_link_name.Goals.{then-k-eq-NAME_LIMIT-via-then-k-eq-NAME_LIMIT}
use Rattle.fields.proofs.read_link_name.Goals.{then-k-eq-NAME_LIMIT-via-else-k-eq-NAME_LIMIT+then-not-is_name_byte}
use Rattle.fields.proofs.read_link_name.Goals as goal

pub loop-b-preserved : goal.loop-b-preserved
loop-b-preserved c =
    let p = c.in-Some.ensures in
    let inv = c.loop-b.invariant in
    named_on _ _ _ _ inv _ _ p.0 p.3 (sym c.is_name_byte.ensures ∙ c.if-not-is_name_byte.false) (omega arith)

pub returns-in-None-2 : goal.returns-in-None-2
returns-in-None-2 c =
    let p = c.in-None.ensures in
    let inv = c.loop-b.invariant in
    let room = passed_bound _ _ _ _ inv.passed in
    ((link-good _ (named_done _ _ _ _ inv p (λ e. omega arith)), omega arith), λ start q. passed_over _ _ _ _ _ _ q inv.passed)

pub returns-then-k-eq-NAME_LIMIT : goal.returns-then-k-eq-NAME_LIMIT
returns-then-k-eq-NAME_LIMIT c =
    let p = c.in-Some.ensures in
    let inv = c.loop-b.invariant in
    elim c.then-k-eq-NAME_LIMIT.branch [
      | then-k-eq-NAME_LIMIT-via-then-k-eq-NAME_LIMIT w ↦
          (link-bad _ (named_long _ _ _ _ inv _ _ p.0 (omega arith)), λ start q. passed_over _ _ _ _ _ _ q inv.passed)
      | then-k-eq-NAME_LIMIT-via-else-k-eq-NAME_LIMIT+then-not-is_name_byte w ↦
          let bad = sym w.is_name_byte.ensures ∙ w.if-not-is_name_byte.true in
          (link-bad _ (named_not _ _ _ _ inv _ _ p.0 bad), λ start q. passed_over _ _ _ _ _ _ q inv.passed)
    ]

pub returns-in-None : goal.returns-in-None
returns-in-None c =
    let p = c.in-None.ensures in
    let inv = c.loop-b.invariant in
    let none = c.if-k-eq0.true in
    (link-bad _ (named_empty _ _ _ _ inv p (omega arith)), λ start q. passed_over _ _ _ _ _ 0 q (rw none at inv.passed))
