-- `listing::fits` meets its contract.
use Rattle.listing.proofs.Delivering.{room_for_all}
use Rattle.listing.proofs.fits.Goals as goal

pub returns-then-room-most_bytes : goal.returns-then-room-most_bytes
returns-then-room-most_bytes c = room_for_all _ _ _ (c.most_bytes.ensures _ _ c.requires.3) c.if-room-most_bytes.true

pub returns : goal.returns
returns c = rw c.put_chain.ensures.0
