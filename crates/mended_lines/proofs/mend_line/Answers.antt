-- `mended_lines::mend_line` meets its contract: an ignored line, a line without a colon, one from which nothing is removed, and a changed one.
use native.Mathlib.Omega.{arith}
use Rattle.mended_lines.proofs.MendedLine.{part_short, names-short, ignored-at, gives_ignored, gives_record, gives_own, gives_changed}
use Rattle.mended_lines.proofs.mend_line.Goals as goal

pub returns-then-is_ignored : goal.returns-then-is_ignored
returns-then-is_ignored c =
    let e = ignored-at _ _ _ _ c.is_ignored.ensures c.if-is_ignored.true in
    gives_ignored _ _ _ _ _ _ _ _ e _ _ c.put_own.ensures

pub returns-in_default : goal.returns-in_default
returns-in_default c =
    let e = ignored-at _ _ _ _ c.is_ignored.ensures c.if-is_ignored.false in
    let h = c.in_default.ensures in
    let k = c.field_length.ensures in
    gives_record _ _ _ _ _ _ _ _ e h _ k _ c.put_record.ensures

pub slice_bounds-record_fields-count : goal.slice_bounds-record_fields-count
slice_bounds-record_fields-count c =
    let p = c.in-Some.ensures in
    omega arith

pub slice_bounds-record_fields-start : goal.slice_bounds-record_fields-start
slice_bounds-record_fields-start c =
    let p = c.in-Some.ensures in
    omega arith

pub overflow_add-start : goal.overflow_add-start
overflow_add-start c =
    let p = c.in-Some.ensures in
    omega (arith, names-short _ _ _ _ p)

pub record_fields-removed-requires : goal.record_fields-removed-requires
record_fields-removed-requires c =
    let p = c.in-Some.ensures in
    let n = names-short _ _ _ _ p in
    let s = part_short c.args.db.now c.in-Some.start.fields in
    (omega (arith, c.requires.0), omega (arith, c.requires.0), omega (arith, c.requires.3))

pub returns-then-removed-eq0 : goal.returns-then-removed-eq0
returns-then-removed-eq0 c =
    let e = ignored-at _ _ _ _ c.is_ignored.ensures c.if-is_ignored.false in
    let p = c.in-Some.ensures in
    let q = c.record_fields-removed.ensures in
    gives_own _ _ _ _ _ _ _ _ e _ _ p _ _ q _ _ c.if-removed-eq0.true c.put_own-then-removed-eq0.ensures

pub put_changed-requires : goal.put_changed-requires
put_changed-requires c =
    let p = c.in-Some.ensures in
    (c.requires.0, p, c.requires.2)

pub returns : goal.returns
returns c =
    let e = ignored-at _ _ _ _ c.is_ignored.ensures c.if-is_ignored.false in
    let p = c.in-Some.ensures in
    let q = c.record_fields-removed.ensures in
    gives_changed _ _ _ _ _ _ _ _ e _ _ p _ _ q _ _ c.if-removed-eq0.false c.put_changed.ensures
