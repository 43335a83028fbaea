-- `listing::take_capability` meets its contract.
use mathlib.Core.Path.{◌∙◌, sym}
use Rattle.listing.proofs.take_capability.Goals as goal

pub returns-then-meet : goal.returns-then-meet
returns-then-meet c = (c.meet.ensures.1, rw (sym c.meet.ensures.0 ∙ c.if-meet.true))

pub returns : goal.returns
returns c = (c.meet.ensures.1, rw (sym c.meet.ensures.0 ∙ c.if-meet.false))
