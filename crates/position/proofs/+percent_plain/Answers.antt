-- `position::plain` and `position::percent` meet their contracts. After a sequence that was done, `came` has what holds of the place that
-- it left.
use Rattle.std.proofs.Common.{arith, refl}
use Rattle.position.proofs.RunLaws.{one_more, at-next_sign, at_last}
use Rattle.position.proofs.SequenceLaws.{came, next_sequence, all_done, pauses, goes_on_lem}
use Rattle.position.proofs.+percent_plain.Goals as goal

pub percent-returns-then-done-command : goal.percent-returns-then-done-command
percent-returns-then-done-command t c =
    let w = came _ _ _ _ _ _ _ _ _ c.loop-done.invariant _ _ c.in_ok-done.ensures c.do_sequence.auto.out in
    all_done _ _ _ _ _ _ _ _ _ w (omega (arith, c.if-done-command.true)) 0

pub percent-returns-then-depth-eq0 : goal.percent-returns-then-depth-eq0
percent-returns-then-depth-eq0 t c =
    let w = came _ _ _ _ _ _ _ _ _ c.loop-done.invariant _ _ c.in_ok-done.ensures c.do_sequence.auto.out in
    pauses _ _ _ _ _ _ _ _ _ w (omega (arith, w.inside, c.if-done-command.false))

pub percent-returns-then-command-done-ne37 : goal.percent-returns-then-command-done-ne37
percent-returns-then-command-done-ne37 t c =
    let w = came _ _ _ _ _ _ _ _ _ c.loop-done.invariant _ _ c.in_ok-done.ensures c.do_sequence.auto.out in
    goes_on_lem _ _ _ _ _ _ _ _ _ w w.inside c.plain.result _ c.plain.ensures

pub percent-loop-done-preserved : goal.percent-loop-done-preserved
percent-loop-done-preserved t c =
    let w = came _ _ _ _ _ _ _ _ _ c.loop-done.invariant _ _ c.in_ok-done.ensures c.do_sequence.auto.out in
    next_sequence _ _ _ _ _ _ _ _ _ w (omega (arith, w.inside, c.if-done-command.false)) c.if-command-done-ne37.false

pub plain-returns-then-b-eq37 : goal.plain-returns-then-b-eq37
plain-returns-then-b-eq37 t c =
    let l = c.loop-i in
    at-next_sign _ _ _ _ _ _ _ l.invariant c.loop-i-test.true c.if-b-eq37.true c.percent.result _ c.percent.ensures

pub plain-loop-i-preserved : goal.plain-loop-i-preserved
plain-loop-i-preserved t c =
    let l = c.loop-i in
    one_more _ _ _ _ _ _ _ l.invariant c.loop-i-test.true c.if-b-eq37.false _ c.put_byte.ensures

pub plain-returns : goal.plain-returns
plain-returns t c =
    let l = c.loop-i in
    at_last _ _ _ _ _ _ _ l.invariant c.loop-i-test.false 0 c.args.ps refl
