use Prim.Native.Nat.{◌-◌, ◌+◌}
use mathlib.Core.Path.{◌≡◌, sym, ap, ◌∙◌}
use native.Mathlib.Omega.{arith}
use Rattle.removal_notes.specs.Notes.{text_from}
use Rattle.removal_notes.proofs.Texts.{from_start, from_end, byte_stop, byte_on}
use Rattle.removal_notes.proofs.skip_bytes.Goals as goal

pub returns-then-b-eq10 : goal.returns-then-b-eq10
returns-then-b-eq10 c =
    let l = c.loop in
    let left = c.args.count - l.counter in
    let p = c.in-Some.ensures in
    let stop = byte_stop c.in-Some.b _ _ left (omega arith) c.if-b-eq10.true in
    (p.0 ∙ sym stop ∙ ap (text_from 0 left) (sym p.0) ∙ l.invariant.0, l.invariant.1, l.invariant.2)

pub loop-preserved : goal.loop-preserved
loop-preserved c =
    let l = c.loop in
    let left = c.args.count - l.counter in
    let p = c.in-Some.ensures in
    let less : c.args.count - (l.counter + 1) ≡ left - 1 = omega arith in
    let on = byte_on c.in-Some.b _ _ left (omega arith) c.if-b-eq10.false in
    (rw less (sym on ∙ ap (text_from 0 left) (sym p.0) ∙ l.invariant.0), omega (arith, p.1), p.2)

pub returns-in-None : goal.returns-in-None
returns-in-None c =
    let l = c.loop in
    let left = c.args.count - l.counter in
    let p = c.in-None.ensures in
    (p ∙ sym (from_end 0 left) ∙ ap (text_from 0 left) (sym p) ∙ l.invariant.0, l.invariant.1, l.invariant.2)

pub returns : goal.returns
returns c =
    let l = c.loop in
    let e : c.args.count - l.counter ≡ 0 = omega arith in
    (sym (from_start _) ∙ rw e at l.invariant.0, l.invariant.1, l.invariant.2)
