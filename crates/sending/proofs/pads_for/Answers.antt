-- `sending::pads_for` meets its contract, by those of its callees.
use Rattle.sending.proofs.pads_for.Goals as goal

pub returns : goal.returns
returns c = rw (← c.delay_for.ensures) c.pad_count.ensures
