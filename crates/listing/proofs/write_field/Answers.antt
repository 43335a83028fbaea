-- `listing::write_field` meets its contract: lost, a record, or a text with its colon.
use native.Mathlib.Omega.{arith}
use Rattle.field_bounds.specs.Answers.{field_at}
use Rattle.field_bounds.proofs.LineBounds.{field_bound}
use Rattle.listing.proofs.Passing.{take_lost, take_record, take-text}
use Rattle.listing.proofs.write_field.Goals as goal

pub returns-in_default : goal.returns-in_default
returns-in_default c =
    let a = c.args in
    let t = c.take_field in
    take_lost a.from (field_at a.s.now a.at) a.seen.now _ a.out.now a.to a.form t.result c.in_default.is
    (t.ensures a.s.now a.at c.requires.1)

pub overflow_add-to : goal.overflow_add-to
overflow_add-to c = omega (arith, c.copy_field-n.ensures.0, field_bound c.args.s.now c.args.at, c.requires.0)

pub overflow_add-result-in-Texts : goal.overflow_add-result-in-Texts
overflow_add-result-in-Texts c = omega (arith, c.copy_field-n.ensures.0, field_bound c.args.s.now c.args.at, c.requires.0)

pub overflow_add-result-in-Texts-2 : goal.overflow_add-result-in-Texts-2
overflow_add-result-in-Texts-2 c = omega (arith, c.copy_field-n.ensures.0, field_bound c.args.s.now c.args.at, c.requires.0)

pub returns-in-Records : goal.returns-in-Records
returns-in-Records c =
    let a = c.args in
    let t = c.take_field in
    let took = t.ensures a.s.now a.at c.requires.1 in
    take_record a.from (field_at a.s.now a.at) a.seen.now _ a.out.now a.to a.form t.result _ _
    c.in-Records.is c.in-Some.is took c.put_record.ensures

pub returns-in-Texts : goal.returns-in-Texts
returns-in-Texts c =
    let copied = c.copy_field-n.ensures in
    let texts = c.in-Texts.is in
    let a = c.args in
    let t = c.take_field in
    let took = t.ensures a.s.now a.at c.requires.1 in
    take-text a.from (field_at a.s.now a.at) a.seen.now _ a.out.now a.to a.form t.result _ _ _ _
    texts c.in-Some.is took copied.0 copied.1 c.put_byte.ensures
