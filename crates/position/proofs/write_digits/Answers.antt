-- `position::write_digits` meets its contract. The invariant: the digits from place `i` on are stored, and those before it spell `rest`.
use native.Mathlib.Omega.{arith}
use Prim.Native.Nat.{◌-◌}
use Rattle.position.proofs.DigitWriting.{spelt_more, spelt_all}
use Rattle.position.proofs.write_digits.Goals as goal

pub loop-i-preserved : goal.loop-i-preserved
loop-i-preserved c =
    let a = c.args in
    let l = c.loop-i in
    spelt_more a.out.now l.out _ a.at a.n a.count l.i (l.i - 1) l.rest l.invariant (omega arith) c.put_byte.ensures

pub returns : goal.returns
returns c = spelt_all _ _ _ _ _ _ _ c.loop-i.invariant (omega arith)
