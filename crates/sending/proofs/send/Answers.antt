-- `sending::send` meets its contract: 13 by the prefix, or as its body is padded.
use mathlib.Core.Path.{ap}
use Rattle.spec.specs.Answers.{written_report}
use Rattle.spec.specs.Sending.{send_outcome}
use Rattle.sending.proofs.Outgoing.{delay-small, send-refused, send-split}
use Rattle.sending.proofs.Delivery.{stopped}
use Rattle.std.proofs.lemmas.Result.{err_from_is_err_and}
use Rattle.sending.proofs.send.Goals as goal

pub pad_bytes-requires : goal.pad_bytes-requires
pad_bytes-requires c = delay-small _ _ c.in_ok-prefix.ensures

pub returns-in_err-prefix : goal.returns-in_err-prefix
unfolding send_outcome
returns-in_err-prefix c =
    let r = err_from_is_err_and c.from_residual.result c.from_residual.ensures.1 in
    let a = c.args in
    let e = stopped _ _ a.out.now (send-refused a.command.now a.lines a.speed a.pad _ c.in_err-prefix.ensures) in
    rw (r.1, r.2) (e.0, e.1, ap written_report e.0)

pub returns : goal.returns
unfolding send_outcome
returns c =
    let a = c.args in
    let p = c.in_ok-prefix.prefix in
    let e = c.pad_bytes.ensures in
    rw (send-split a.command.now a.lines a.speed a.pad p.delay p.star p.from c.in_ok-prefix.ensures.0) (e.0, e.1, ap written_report e.0)
