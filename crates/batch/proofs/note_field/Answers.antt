-- `batch::note_field` meets its contract, by what the field is read as.
use native.Mathlib.Omega.{arith}
use Rattle.spec.specs.Fields.{flag, number, string}
use Rattle.field_bounds.specs.Answers.{field_at}
use Rattle.batch.proofs.Noting.{noted_none, noted_cancel, noted_kept}
use Rattle.batch.proofs.note_field.Goals as goal

pub returns-in-Cancel : goal.returns-in-Cancel
returns-in-Cancel c s at place file q =
    let a = c.args in
    let p = rw c.in-Cancel.is at q in
    noted_cancel place file (field_at s at) a.tables.now _ _ _ p c.meet.ensures.1

pub returns-in-Flag : goal.returns-in-Flag
returns-in-Flag c s at place file q =
    let a = c.args in
    let p = rw c.in-Flag.is at q in
    let e = c.keep.ensures in
    noted_kept place file (field_at s at) a.tables.now _ _ flag _ _ p (omega arith) e.0 e.1

pub returns-in-Number : goal.returns-in-Number
returns-in-Number c s at place file q =
    let a = c.args in
    let p = rw c.in-Number.is at q in
    let e = c.keep-in-Number.ensures in
    noted_kept place file (field_at s at) a.tables.now _ _ (number _) _ _ p (omega arith) e.0 e.1

pub returns-in-String : goal.returns-in-String
returns-in-String c s at place file q =
    let a = c.args in
    let p = rw c.in-String.is at q in
    let e = c.keep-in-String.ensures in
    noted_kept place file (field_at s at) a.tables.now _ _ (string p.0) _ _ p.1 (omega arith) e.0 (rw p.3 e.1)

pub returns-in_default : goal.returns-in_default
returns-in_default c s at place file q =
    let d = c.in_default in
    noted_none s at place file c.args.tables.now c.args.read q d.not-Cancel d.not-Flag d.not-Number d.not-String
