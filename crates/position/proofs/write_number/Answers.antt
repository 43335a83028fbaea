-- `position::write_number` meets its contract, by the width and by whether one digit or two are enough.
use Rattle.position.proofs.DigitWriting.{one_digit_lem, two_digits_lem, two_stored}
use mathlib.Core.Path.{refl}
use native.Mathlib.Omega.{arith}
use Rattle.position.proofs.write_number.Goals as goal

pub overflow_add-result : goal.overflow_add-result
overflow_add-result c =
    let a = c.args in
    let p = rw (one_digit_lem a.least a.n c.if-least-ne1.false c.if-n-lt10.true) at
    c.requires in
    omega arith

pub returns-then-n-lt10 : goal.returns-then-n-lt10
returns-then-n-lt10 c =
    let a = c.args in
    rw (one_digit_lem a.least a.n c.if-least-ne1.false c.if-n-lt10.true)
    (refl, c.put_byte.ensures)

pub overflow_add-at : goal.overflow_add-at
overflow_add-at c =
    let a = c.args in
    let p = rw (two_digits_lem a.least a.n c.if-least-ne1.false
    c.if-n-lt10.false c.if-n-lt100.true) at
    c.requires in
    omega arith

pub overflow_add-result-then-n-lt100 : goal.overflow_add-result-then-n-lt100
overflow_add-result-then-n-lt100 c =
    let a = c.args in
    let p = rw (two_digits_lem a.least a.n c.if-least-ne1.false
    c.if-n-lt10.false
    c.if-n-lt100.true) at
    c.requires in
    omega arith

pub returns-then-n-lt100 : goal.returns-then-n-lt100
returns-then-n-lt100 c =
    let a = c.args in
    rw (two_digits_lem a.least a.n c.if-least-ne1.false
    c.if-n-lt10.false
    c.if-n-lt100.true) (
      refl,
      two_stored a.out.now _ _ a.at _ _ c.put_byte-then-n-lt100.ensures
          c.put_byte-then-n-lt100-2.ensures,
    )
