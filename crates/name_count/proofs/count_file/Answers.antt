-- `name_count::count_file` meets its contract: the names of the lines passed are other names, and counted.
use native.Mathlib.Omega.{arith}
use Rattle.spec.specs.Lines.{text_at, line_text, later_lines}
use Rattle.spec.specs.Search.{line_names, names_in}
use Rattle.name_count.proofs.Counting.{at-start, next_fits, found_here, go_on, none_left, names-from, no_names, file-start}
use Rattle.name_count.proofs.count_file.Goals as goal

pub loop-t-init : goal.loop-t-init
loop-t-init c =
    let s = c.args.s.now in
    rw (file-start s, names-from 0 (text_at s 0)) (at-start _ _ _)

pub count_line-t-requires : goal.count_line-t-requires
count_line-t-requires c =
    let t = text_at c.args.s.now c.loop-t.at in
    next_fits _ _ _ (line_names (line_text t)) (names_in (later_lines t)) _ c.loop-t.invariant c.requires

pub returns-then-t : goal.returns-then-t
returns-then-t c =
    let t = text_at c.args.s.now c.loop-t.at in
    found_here _ _ _ (line_names (line_text t)) (names_in (later_lines t)) _ c.loop-t.invariant _ c.count_line-t.ensures c.if-t.true

pub loop-t-smaller : goal.loop-t-smaller
loop-t-smaller c =
    let p = c.in-Some.ensures in
    omega arith

pub loop-t-preserved : goal.loop-t-preserved
loop-t-preserved c =
    let t = text_at c.args.s.now c.loop-t.at in
    let p = c.in-Some.ensures in
    let left = go_on _ _ _ (line_names (line_text t)) (names_in (later_lines t)) _ c.loop-t.invariant _ c.count_line-t.ensures c.if-t.false in
    rw (← names-from c.in-Some.p _, ← p.0) left

pub returns-in-None : goal.returns-in-None
returns-in-None c =
    let t = text_at c.args.s.now c.loop-t.at in
    let p = c.in-None.ensures in
    let left = go_on _ _ _ (line_names (line_text t)) (names_in (later_lines t)) _ c.loop-t.invariant _ c.count_line-t.ensures c.if-t.false in
    none_left _ _ _ _ (rw (← no_names, ← p) left)
