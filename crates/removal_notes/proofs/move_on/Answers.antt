use Prim.Native.Nat.{◌+◌, ◌<◌}
use mathlib.Core.Path.{◌∙◌}
use native.Mathlib.Omega.{arith}
use Rattle.removal_notes.proofs.Positions.{position_on, position-most, stretch_length}
use Rattle.removal_notes.proofs.move_on.Goals as goal

pub next_position-here-requires : goal.next_position-here-requires
next_position-here-requires c =
    let l = c.loop-b in
    let pre = c.requires.from_le_to in
    let size = stretch_length c.args.db.now c.args.from c.args.to pre.1 in
    let most = rw (← l.invariant) at (position-most c.args.db.now (c.args.from + l.b-index)) in
    let inside : c.args.from + l.b-index < c.args.to = omega (arith, size, c.loop-b-test.true) in
    (omega (arith, most.0, inside, pre.1, pre.2), omega (arith, most.1, inside, pre.1, pre.2))

pub loop-b-preserved : goal.loop-b-preserved
loop-b-preserved c =
    let l = c.loop-b in
    let a = c.args in
    c.next_position-here.ensures ∙ rw l.invariant (position_on a.db.now a.from a.to l.b-index c.requires.from_le_to.1 c.loop-b-test.true)
