-- `sending::pad_bytes` meets its contract: 12 by the speed, or the bytes and their pads.
use mathlib.Core.Path.{sym, ◌∙◌}
use Rattle.sending.proofs.Inputs.{speed_in_range}
use Rattle.sending.proofs.Outgoing.{apart_slow, apart_fast}
use Rattle.sending.proofs.Delivery.{stopped}
use Rattle.sending.proofs.pad_bytes.Goals as goal

pub returns-then-not-good_speed : goal.returns-then-not-good_speed
returns-then-not-good_speed c =
    let a = c.args in
    let slow = sym c.good_speed.ensures ∙ c.if-not-good_speed.true in
    stopped _ _ a.out.now (apart_slow a.delay a.star a.bytes.now a.lines a.speed a.pad slow)

pub pads_for-requires : goal.pads_for-requires
pads_for-requires c =
    let range = speed_in_range _ _ (sym c.good_speed.ensures ∙ c.if-not-good_speed.false) in
    (c.requires, range.0, range.1)

pub returns : goal.returns
returns c =
    let a = c.args in
    let sent = rw c.pads_for.ensures at c.send_copied.ensures in
    let fast = sym c.good_speed.ensures ∙ c.if-not-good_speed.false in
    rw (apart_fast a.delay a.star a.bytes.now a.lines a.speed a.pad fast) sent
