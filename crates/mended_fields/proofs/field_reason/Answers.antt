-- `mended_fields::field_reason` meets its contract, by what the field is read as.
use mathlib.Core.Path.{sym, ◌∙◌}
use Rattle.spec.specs.Repair.{field_reason}
use Rattle.mended_fields.proofs.Reasons.{reason-capability}
use Rattle.mended_fields.proofs.field_reason.Goals as goal

pub returns-then-linked : goal.returns-then-linked
unfolding field_reason
returns-then-linked c s at h = let q = rw c.in-Link.is at h in rw (q.0, c.if-linked.true)

pub returns-then-linked-2 : goal.returns-then-linked-2
returns-then-linked-2 c s at h =
    let d = c.in_default in
    sym (reason-capability _ _ s at c.args.read d.not-Malformed d.not-Ignored d.not-Link h ∙ rw c.if-linked-2.true)

pub returns-in-Malformed : goal.returns-in-Malformed
unfolding field_reason
returns-in-Malformed c s at h = let q = rw c.in-Malformed.is at h in rw q

pub returns-in-Ignored : goal.returns-in-Ignored
unfolding field_reason
returns-in-Ignored c s at h = let q = rw c.in-Ignored.is at h in rw q

pub returns-else-linked : goal.returns-else-linked
unfolding field_reason
returns-else-linked c s at h = let q = rw c.in-Link.is at h in rw (q.0, c.if-linked.false)

pub returns-else-linked-2 : goal.returns-else-linked-2
returns-else-linked-2 c s at h =
    let d = c.in_default in
    sym (reason-capability _ _ s at c.args.read d.not-Malformed d.not-Ignored d.not-Link h ∙ rw c.if-linked-2.false)
