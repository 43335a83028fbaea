-- `lookup::scan_fields` meets its contract: the fields from `at` on say what all of them say.
use mathlib.Core.Path.{refl, ◌∙◌, sym}
use native.Mathlib.Omega.{arith}
use Rattle.field_bounds.specs.Answers.{field_at}
use Rattle.lookup.proofs.Scanning.{scan-none, scan-other, scan-cancel, scan-answer, scan_on}
use Rattle.lookup.proofs.scan_fields.Goals as goal

pub loop-at-init : goal.loop-at-init
loop-at-init c = refl

pub returns-in_default : goal.returns-in_default
returns-in_default c =
    let p = c.in_default.ensures in
    c.loop-at.invariant ∙ rw p (scan-none _ _)

pub loop-at-smaller-then-not-has_name : goal.loop-at-smaller-then-not-has_name
loop-at-smaller-then-not-has_name c =
    let p = c.in-Some.ensures in
    omega arith

pub loop-at-preserved-then-not-has_name : goal.loop-at-preserved-then-not-has_name
loop-at-preserved-then-not-has_name c =
    let p = c.in-Some.ensures in
    let h = sym c.has_name.ensures ∙ c.if-not-has_name.true in
    c.loop-at.invariant ∙ rw p.0 (scan-other _ _ _ _ h)

pub returns-in_default-next_field : goal.returns-in_default-next_field
returns-in_default-next_field c =
    let p = c.in_default-next_field.ensures in
    c.loop-at.invariant ∙ rw p (scan-none _ _)

pub returns-in-Cancels : goal.returns-in-Cancels
returns-in-Cancels c =
    let r = c.in-Some-next_field.field-0.read in
    let p = c.in-Some-next_field.ensures in
    let h = sym c.has_name.ensures ∙ c.if-not-has_name.false in
    let m = c.in-Cancels.ensures in
    c.loop-at.invariant ∙ rw p.0 (scan-cancel _ _ _ _ _ r h p.1 m)

pub returns-in-Answers : goal.returns-in-Answers
returns-in-Answers c =
    let r = c.in-Some-next_field.field-0.read in
    let p = c.in-Some-next_field.ensures in
    let h = sym c.has_name.ensures ∙ c.if-not-has_name.false in
    let m = c.in-Answers.ensures in
    let t = field_at c.args.s.now c.loop-at.at in
    (t, c.loop-at.invariant ∙ rw p.0 (scan-answer _ _ t _ _ r h p.1 m.0 m.1), p.1)

pub loop-at-smaller : goal.loop-at-smaller
loop-at-smaller c =
    let p = c.in-Some-next_field.ensures in
    omega arith

pub loop-at-preserved : goal.loop-at-preserved
loop-at-preserved c =
    let r = c.in-Some-next_field.field-0.read in
    let p = c.in-Some-next_field.ensures in
    let h = sym c.has_name.ensures ∙ c.if-not-has_name.false in
    let m = c.in-Passes.ensures in
    c.loop-at.invariant ∙ rw p.0 (scan_on _ _ _ _ _ r h p.1 m.0 m.1)
