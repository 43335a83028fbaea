-- `name_places::mark_places` meets its contract: the places passed are marked.
use native.Mathlib.Omega.{arith}
use Rattle.name_places.proofs.Marking.{higher, marked_more}
use Rattle.name_places.proofs.mark_places.Goals as goal

pub loop-k-preserved : goal.loop-k-preserved
loop-k-preserved c =
    let a = c.args in
    let l = c.loop-k in
    let fits = c.is_between-fits in
    let high = higher c.max-high.ensures in
    let low = higher c.max-low.ensures in
    marked_more a.s.now a.name.now a.at l.k fits.result c.is_cut-cut.result (omega arith) (omega arith) l.invariant
    fits.ensures.fact fits.ensures.separator c.is_cut-cut.ensures c.mark_of.ensures high.0 high.1 high.2
    c.mark_of-in-loop-k.ensures low.0 low.1 low.2
