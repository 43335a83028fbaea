-- `name_count::count_names` meets its contract: the names passed are other names, and counted.
use mathlib.Core.List.{[], ◌∷◌}
use native.Mathlib.Omega.{arith}
use Rattle.spec.specs.Lines.{text_at, line_text, first_name, later_names}
use Rattle.name_count.proofs.Counting.{at-start, next_fits, found_here, go_on, none_left}
use Rattle.name_count.proofs.count_names.Goals as goal

pub loop-t-init : goal.loop-t-init
loop-t-init c = at-start _ _ _

pub count_name-t-requires : goal.count_name-t-requires
count_name-t-requires c =
    let l = line_text (text_at c.args.s.now c.loop-t.i) in
    next_fits _ _ _ (first_name l ∷ []) (later_names l) _ c.loop-t.invariant c.requires

pub returns-then-t : goal.returns-then-t
returns-then-t c =
    let l = line_text (text_at c.args.s.now c.loop-t.i) in
    found_here _ _ _ (first_name l ∷ []) (later_names l) _ c.loop-t.invariant _ c.count_name-t.ensures c.if-t.true

pub loop-t-smaller : goal.loop-t-smaller
loop-t-smaller c =
    let p = c.in-Some.ensures in
    omega arith

pub loop-t-preserved : goal.loop-t-preserved
loop-t-preserved c =
    let l = line_text (text_at c.args.s.now c.loop-t.i) in
    let p = c.in-Some.ensures in
    rw (← p.0) (go_on _ _ _ (first_name l ∷ []) (later_names l) _ c.loop-t.invariant _ c.count_name-t.ensures c.if-t.false)

pub returns-in-None : goal.returns-in-None
returns-in-None c =
    let l = line_text (text_at c.args.s.now c.loop-t.i) in
    let p = c.in-None.ensures in
    none_left _ _ _ _ (rw (← p) (go_on _ _ _ (first_name l ∷ []) (later_names l) _ c.loop-t.invariant _ c.count_name-t.ensures c.if-t.false))
