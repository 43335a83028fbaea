-- `listing::list` meets its contract, by how the walk ended.
use mathlib.Core.Path.{ap}
use Rattle.spec.specs.Answers.{written_report}
use Rattle.spec.specs.Listing.{list_outcome, list_for}
use Rattle.laws.proofs.ListingBounds.{accepted-bounded}
use Rattle.listing.proofs.Delivering.{list-none, list-counted, list-refused}
use Rattle.std.proofs.lemmas.Result.{err_from_is_err_and}
use Rattle.listing.proofs.list.Goals as goal

pub write_chain-requires : goal.write_chain-requires
write_chain-requires c =
    let w = c.in_ok-chain.ensures in
    (w.3, w.1, w.2, accepted-bounded _ _ _ _ w.0)

pub returns-in_err-chain : goal.returns-in_err-chain
unfolding list_outcome list_for
returns-in_err-chain c =
    let r = err_from_is_err_and c.from_residual.result c.from_residual.ensures.1 in
    let w = c.in_err-chain.ensures in
    let e = list-none _ c.args.out.now _ w in
    rw (r.1, r.2) (e.0, e.1, ap written_report e.0)

pub returns-in_err-n : goal.returns-in_err-n
unfolding list_outcome list_for
returns-in_err-n c =
    let r = err_from_is_err_and c.from_residual-in_err-n.result c.from_residual-in_err-n.ensures.1 in
    let w = c.in_ok-chain.ensures in
    let e = list-refused _ _ _ _ c.in_err-n.ensures in
    rw (r.1, r.2, w.0) (e.0, e.1, ap written_report e.0)

pub returns : goal.returns
unfolding list_outcome list_for
returns c =
    let w = c.in_ok-chain.ensures in
    let e = list-counted _ _ _ _ c.in_ok-n.ensures in
    rw w.0 (e.0, e.1, ap written_report e.0)
