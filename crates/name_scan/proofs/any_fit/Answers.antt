-- `name_scan::any_fit` meets its contract: while no test has held, the places passed are settled.
use Rattle.std.proofs.Common.{◌+◌, ◌||◌, arith}
use Rattle.name_places.proofs.Places.{or_left, or_right, each_to, each_one}
use Rattle.name_scan.proofs.Starts.{settled_unfit}
use Rattle.name_scan.proofs.any_fit.Goals as goal

pub loop-k-preserved : goal.loop-k-preserved
loop-k-preserved c =
    let a = c.args in
    let l = c.loop-k in
    let i = a.at + l.k in
    let fits = c.is_between-fits in
    let cut = c.is_cut in
    let test = fits.result || cut.result in
    λ e. each_to (a.at + (l.k + 1)) (each_one i (l.invariant (or_left l.hit test e))
    (settled_unfit a.s.now a.name.now i fits.result cut.result (omega arith) fits.ensures.fact cut.ensures (or_right l.hit test e))) (omega arith)
