-- `lookup::has_name` meets its contract, byte by byte.
use mathlib.Core.Path.{sym}
use Rattle.lookup.proofs.FieldNames.{name_missing, first_differs, second_missing, second_decides}
use Rattle.lookup.proofs.has_name.Goals as goal

pub returns-in_default : goal.returns-in_default
returns-in_default c = sym (name_missing _ _ _ (c.in_default.ensures))

pub returns-then-a-x : goal.returns-then-a-x
returns-then-a-x c =
    let p = c.in-Some.ensures in
    sym (first_differs _ _ _ _ _ p.0 c.if-a-x.true)

pub returns-in_default-field_byte : goal.returns-in_default-field_byte
returns-in_default-field_byte c =
    let p = c.in-Some.ensures in
    sym (second_missing _ _ _ _ _ p.0 (c.in_default-field_byte.ensures))

pub returns : goal.returns
returns c =
    let p = c.in-Some.ensures in
    let q = c.in-Some-field_byte.ensures in
    sym (second_decides _ _ _ _ _ p.0 _ _ c.if-a-x.false q.0)
