use Prim.Native.Nat.{◌-◌, ◌+◌}
use mathlib.Core.Path.{◌≡◌, sym, ◌∙◌}
use native.Mathlib.Omega.{arith}
use lib.ListN.{length-append}
use Rattle.spec.specs.Lines.{text_at}
use Rattle.laws.proofs.Stores.{stored-append}
use Rattle.removal_notes.specs.Notes.{shown_byte, shown_bytes}
use Rattle.removal_notes.proofs.Storing.{shown-none, shown-end, shown-next}
use Rattle.removal_notes.proofs.put_joined.Goals as goal

pub loop-preserved : goal.loop-preserved
loop-preserved c =
    let l = c.loop in
    let left = c.args.count - l.counter in
    let less : c.args.count - (l.counter + 1) ≡ left - 1 = omega arith in
    let s = c.put_shown-end in
    let i = rw (c.in-Some.ensures.0, shown-next _ _ _ left (omega arith)) at l.invariant in
    let rest = shown_bytes (left - 1) (text_at _ c.in-Some.n) in
    let n = simp length-append at i.counted in
    rw less (record {
      stored = rw (s.ensures.0.stored, s.ensures.0.place) (sym (stored-append l.out l.end (shown_byte c.in-Some.b) rest)) ∙ i.stored;
      counted = omega (arith, n, s.ensures.0.place);
      bounded = omega (arith, s.ensures.1, l.invariant.bounded);
    })

pub returns-in-None : goal.returns-in-None
returns-in-None c =
    let i = rw (c.in-None.ensures, shown-end) at c.loop.invariant in
    (record { place = omega (arith, i.counted); stored = i.stored }, omega (arith, i.bounded))

pub returns : goal.returns
returns c =
    let e : c.args.count - c.loop.counter ≡ 0 = omega arith in
    let i = rw (e, shown-none) at c.loop.invariant in
    (record { place = omega (arith, i.counted); stored = i.stored }, omega (arith, i.bounded))
