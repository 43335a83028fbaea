-- `removal_notes::skip_lines` meets its contract. The invariant: what is left, from here, is what was asked for. The measure is the rest of
-- the database.
use mathlib.Core.Path.{◌≡◌, sym, ap, ◌∙◌}
use native.Mathlib.Omega.{arith}
use Rattle.removal_notes.specs.Notes.{text_from}
use Rattle.removal_notes.proofs.Texts.{from_start, from_end, line-passed, line_on}
use Rattle.removal_notes.proofs.skip_lines.Goals as goal

pub loop-left-preserved-then-b-eq10 : goal.loop-left-preserved-then-b-eq10
loop-left-preserved-then-b-eq10 c =
    let l = c.loop-left in
    let p = c.in-Some.ensures in
    (sym (line-passed _ _ _ l.left 0 (omega arith) c.if-b-eq10.true) ∙ ap (text_from l.left 0) (sym p.0) ∙ l.invariant.0, omega (arith, p.1), p.2)

pub loop-left-preserved : goal.loop-left-preserved
loop-left-preserved c =
    let l = c.loop-left in
    let p = c.in-Some.ensures in
    (sym (line_on _ _ _ l.left 0 (omega arith) c.if-b-eq10.false) ∙ ap (text_from l.left 0) (sym p.0) ∙ l.invariant.0, omega (arith, p.1), p.2)

pub returns-in-None : goal.returns-in-None
returns-in-None c =
    let l = c.loop-left in
    let p = c.in-None.ensures in
    (p ∙ sym (from_end l.left 0) ∙ ap (text_from l.left 0) (sym p) ∙ l.invariant.0, l.invariant.1, l.invariant.2)

pub returns : goal.returns
returns c =
    let l = c.loop-left in
    let e : l.left ≡ 0 = omega arith in
    (sym (from_start _) ∙ rw e at l.invariant.0, l.invariant.1, l.invariant.2)
