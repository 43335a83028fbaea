-- `sending::send_at` meets its contract: a refusal by the place, the prefix, the body or the speed, or the body filled in, and its pads.
use mathlib.Core.Path.{sym, ap, ◌∙◌}
use Rattle.std.specs.Prelude.{Ok, Err}
use Rattle.spec.specs.Answers.{written_report}
use Rattle.spec.specs.Sending.{Prepared, padded, send_at_outcome}
use Rattle.position.proofs.FillSteps.{part}
use Rattle.sending.proofs.Inputs.{speed_in_range, place-in_range, place-judged, filled-held}
use Rattle.sending.proofs.Outgoing.{at-refused, at_slow, at_fast}
use Rattle.sending.proofs.Delivery.{stopped}
use Rattle.std.proofs.lemmas.Result.{err_from_is_err_and}
use Rattle.sending.proofs.send_at.Goals as goal

pub returns-in_err-prefix : goal.returns-in_err-prefix
unfolding send_at_outcome
returns-in_err-prefix c =
    let r = err_from_is_err_and c.from_residual.result c.from_residual.ensures.1 in
    let a = c.args in
    let j = place-judged a.row a.column _ _ c.held_for.ensures c.held_for-2.ensures a.command.now _
    (Err c.in_err-prefix.field-0.0) c.good_place.ensures c.in_err-prefix.ensures in
    let refusal = at-refused a.command.now a.row a.column a.back.now a.up.now _ j in
    let e = stopped _ _ a.out.now (ap (λ (x : Prepared). padded x a.lines a.speed a.pad) refusal) in
    rw (r.1, r.2) (e.0, e.1, ap written_report e.0)

pub returns-then-not-good_speed : goal.returns-then-not-good_speed
unfolding send_at_outcome
returns-then-not-good_speed c =
    let a = c.args in
    let p = c.in_ok-prefix.prefix in
    let j = place-judged a.row a.column _ _ c.held_for.ensures c.held_for-2.ensures a.command.now _ (Ok p) c.good_place.ensures c.in_ok-prefix.ensures in
    let place = place-in_range a.row a.column j.0 in
    let filled = filled-held a.row a.column _ _ c.held_for.ensures c.held_for-2.ensures
    (part a.command.now p.from) a.back.now a.up.now place.0 place.1 in
    let slow = sym c.good_speed.ensures ∙ c.if-not-good_speed.true in
    let law = at_slow a.command.now a.row a.column a.back.now a.up.now p j in
    let e = stopped _ _ a.out.now (law a.lines a.speed a.pad slow) in
    rw (c.first_fault.ensures, filled) (e.0, e.1, ap written_report e.0)

pub pads_for-pads-requires : goal.pads_for-pads-requires
pads_for-pads-requires c =
    let range = speed_in_range _ _ (sym c.good_speed.ensures ∙ c.if-not-good_speed.false) in
    (c.in_ok-prefix.ensures.3, range.0, range.1)

pub returns : goal.returns
unfolding send_at_outcome
returns c =
    let a = c.args in
    let p = c.in_ok-prefix.prefix in
    let j = place-judged a.row a.column _ _ c.held_for.ensures c.held_for-2.ensures a.command.now _ (Ok p) c.good_place.ensures c.in_ok-prefix.ensures in
    let place = place-in_range a.row a.column j.0 in
    let filled = filled-held a.row a.column _ _ c.held_for.ensures c.held_for-2.ensures
    (part a.command.now p.from) a.back.now a.up.now place.0 place.1 in
    let fast = sym c.good_speed.ensures ∙ c.if-not-good_speed.false in
    let law = at_fast a.command.now a.row a.column a.back.now a.up.now p j in
    let e = rw c.pads_for-pads.ensures at c.send_filled.ensures in
    rw (law a.lines a.speed a.pad fast, ← filled) (e.0, e.1, ap written_report e.0)
