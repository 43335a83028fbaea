-- `listing::put_chain` meets its contract, by the form.
use Rattle.listing.proofs.Delivering.{list_measured, list-stored}
use Rattle.listing.proofs.put_chain.Goals as goal

pub returns-in-Records : goal.returns-in-Records
returns-in-Records c =
    let w = c.write_winning.ensures in
    rw c.in-Records.is (list_measured _ _ _ _ w, list-stored _ _ _ _ w)

pub returns-in-Texts : goal.returns-in-Texts
returns-in-Texts c = rw c.in-Texts.is c.put_flat.ensures
