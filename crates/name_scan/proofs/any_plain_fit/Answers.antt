-- `name_scan::any_plain_fit` meets its contract: while no test has held, the places passed are settled.
use Rattle.std.proofs.Common.{◌+◌, ◌&&◌, ◌||◌, eqb, get_or, arith}
use borrow.Author.Tests.{eqb-false}
use Rattle.name_places.proofs.Places.{or_left, or_right, each_to, each_one}
use Rattle.name_scan.proofs.Starts.{settled_unended}
use Rattle.name_scan.proofs.any_plain_fit.Goals as goal

pub loop-k-preserved : goal.loop-k-preserved
loop-k-preserved c =
    let a = c.args in
    let l = c.loop-k in
    let i = a.at + l.k in
    let start = c.is_start-start in
    let pair = eqb (get_or a.s.now (i + 1) 0) 92 in
    let stop = c.is_stop in
    let test = start.result && (pair || stop.result) in
    λ e. each_to (a.at + (l.k + 1)) (each_one i (l.invariant (or_left l.hit test e))
    (settled_unended a.s.now a.name.now c.requires.plain c.requires.name_nonzero i start.result pair stop.result (omega arith)
    start.ensures (eqb-false _ 92) stop.ensures (or_right l.hit test e))) (omega arith)
