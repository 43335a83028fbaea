-- `sending::fill` meets its contract: a refusal by the place or the prefix, or what Send at without pads writes.
use mathlib.Core.Path.{refl, ap, ◌∙◌}
use Rattle.std.specs.Prelude.{Ok, Err}
use Rattle.spec.specs.Answers.{filled_report}
use Rattle.spec.specs.Sending.{filled_answer, fill_outcome}
use Rattle.position.proofs.FillSteps.{part}
use Rattle.sending.proofs.Inputs.{place-in_range, place-judged, filled-held}
use Rattle.sending.proofs.Outgoing.{at-refused, at-alone}
use Rattle.std.proofs.lemmas.Result.{err_from_is_err_and}
use Rattle.sending.proofs.fill.Goals as goal

pub returns-in_err-prefix : goal.returns-in_err-prefix
unfolding fill_outcome
returns-in_err-prefix c =
    let r = err_from_is_err_and c.from_residual.result c.from_residual.ensures.1 in
    let a = c.args in
    let j = place-judged a.row a.column _ _ c.held_for.ensures c.held_for-2.ensures a.command.now _
    (Err c.in_err-prefix.field-0.0) c.good_place.ensures c.in_err-prefix.ensures in
    rw (r.1, r.2) (rw (at-refused a.command.now a.row a.column a.back.now a.up.now _ j) (refl, refl, refl))

pub returns : goal.returns
unfolding fill_outcome
returns c =
    let a = c.args in
    let p = c.in_ok-prefix.prefix in
    let j = place-judged a.row a.column _ _ c.held_for.ensures c.held_for-2.ensures a.command.now _ (Ok p) c.good_place.ensures c.in_ok-prefix.ensures in
    let place = place-in_range a.row a.column j.0 in
    let filled = filled-held a.row a.column _ _ c.held_for.ensures c.held_for-2.ensures
    (part a.command.now p.from) a.back.now a.up.now place.0 place.1 in
    let w = c.send_filled-written.ensures in
    let e = c.filled_answer.ensures ∙ ap (filled_answer p.delay p.star) w.0 in
    rw (at-alone a.command.now a.row a.column a.back.now a.up.now p j a.out.now, ← filled) (e, w.1, ap filled_report e)
