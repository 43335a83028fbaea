-- `listing::flat` meets its contract, by how the walk ended.
use mathlib.Core.Path.{ap}
use Rattle.spec.specs.Answers.{written_report}
use Rattle.spec.specs.Listing.{flat_outcome, flat_for}
use Rattle.laws.proofs.ListingBounds.{accepted-bounded}
use Rattle.listing.proofs.Delivering.{flat-none}
use Rattle.std.proofs.lemmas.Result.{err_from_is_err_and}
use Rattle.listing.proofs.flat.Goals as goal

pub write_chain-requires : goal.write_chain-requires
write_chain-requires c =
    let w = c.in_ok-chain.ensures in
    (w.3, w.1, w.2, accepted-bounded _ _ _ _ w.0)

pub returns-in_err-chain : goal.returns-in_err-chain
unfolding flat_outcome flat_for
returns-in_err-chain c =
    let r = err_from_is_err_and c.from_residual.result c.from_residual.ensures.1 in
    let w = c.in_err-chain.ensures in
    let e = flat-none _ c.args.out.now _ w in
    rw (r.1, r.2) (e.0, e.1, ap written_report e.0)

pub returns : goal.returns
unfolding flat_outcome flat_for
returns c =
    let w = c.in_ok-chain.ensures in
    let e = c.write_chain.ensures in
    rw w.0 (e.0, e.1, ap written_report e.0)
