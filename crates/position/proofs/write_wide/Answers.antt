-- `position::write_wide` meets its contract, by the count of the digits.
use Rattle.position.proofs.DigitWriting.{number_is, number-length}
use mathlib.Core.Path.{refl, ◌∙◌}
use native.Mathlib.Omega.{arith}
use Rattle.position.proofs.write_wide.Goals as goal

pub write_digits-requires : goal.write_digits-requires
write_digits-requires c =
    let f = c.digit_count-count.ensures in
    let k = number-length _ _ _ f in
    let p = rw k at c.requires in
    (p, f.1)

pub overflow_add-result : goal.overflow_add-result
overflow_add-result c =
    let f = c.digit_count-count.ensures in
    let k = number-length _ _ _ f in
    let p = rw k at c.requires in
    omega arith

pub returns : goal.returns
returns c =
    let f = c.digit_count-count.ensures in
    rw (number-length _ _ _ f) (refl, c.write_digits.ensures ∙ rw (number_is _ _ _ f))
