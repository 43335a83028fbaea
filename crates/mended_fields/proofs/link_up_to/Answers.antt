-- `mended_fields::link_up_to` meets its contract, by what the field is read as.
use Rattle.spec.specs.Repair.{is_link}
use Rattle.mended_fields.proofs.Reasons.{linked-other, either_true}
use Rattle.mended_fields.proofs.link_up_to.Goals as goal

pub returns-in-Link : goal.returns-in-Link
unfolding is_link
returns-in-Link c s at h = let q = rw c.in-Link.is at h in rw q.0 (either_true c.args.linked)

pub returns-in_default : goal.returns-in_default
returns-in_default c s at h = rw (linked-other s at c.args.read c.in_default.not-Link h, c.if-linked.false)
