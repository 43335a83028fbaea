-- `sending::pad` meets its contract: 12 by the delay, or as the bytes are padded.
use native.Mathlib.Omega.{arith}
use mathlib.Core.Path.{ap}
use Rattle.spec.specs.Answers.{written_report}
use Rattle.spec.specs.Sending.{pad_outcome}
use Rattle.sending.proofs.Outgoing.{handed_long, handed-short}
use Rattle.sending.proofs.Delivery.{stopped}
use Rattle.sending.proofs.pad.Goals as goal

pub returns-then-delay-gt-LONGEST_DELAY : goal.returns-then-delay-gt-LONGEST_DELAY
unfolding pad_outcome
returns-then-delay-gt-LONGEST_DELAY c =
    let a = c.args in
    let e = stopped _ _ a.out.now (handed_long a.delay a.star a.bytes.now a.lines a.speed a.pad (omega arith)) in
    (e.0, e.1, ap written_report e.0)

pub returns : goal.returns
unfolding pad_outcome
returns c =
    let a = c.args in
    let e = c.pad_bytes.ensures in
    rw (handed-short a.delay a.star a.bytes.now a.lines a.speed a.pad (omega arith)) (e.0, e.1, ap written_report e.0)
