-- `escapes::after_backslash` meets its contract: the first of three octal digits, or a letter of the table.
use native.Mathlib.Omega.{arith}
use Prim.Native.Nat.{◌≤◌}
use mathlib.Core.Path.{refl}
use Rattle.laws.proofs.DigitBytes.{digit_is}
use Rattle.laws.proofs.FieldSteps as Steps
use Rattle.spec.specs.Strings.{decode}
use Rattle.field_bounds.proofs.FieldBytes.{passed_over}
use Rattle.escapes.proofs.TextSteps.{text_on}
use Rattle.escapes.proofs.after_backslash.Goals as goal

pub returns-in-48-to-55 : goal.returns-in-48-to-55
returns-in-48-to-55 c =
    let p = c.in-Some.ensures in
    let digit = digit_is 8 c.in-Some.b (omega arith) (omega arith) in
    text_on _ _ _ _ _ c.octal_escape.result (rw p.0 (Steps.decode_first _ _ digit)) p.1 p.3 refl c.octal_escape.ensures

pub returns-in-Some-escape_of : goal.returns-in-Some-escape_of
returns-in-Some-escape_of c =
    let p = c.in-Some.ensures in
    let v = c.in-Some-escape_of.ensures in
    let no_digit : (48 ≤ c.in-Some.b) × (c.in-Some.b ≤ 55) → ⊥ = λ w. omega arith in
    (rw p.0 (Steps.decode-letter _ _ _ no_digit v.0 v.1), p.1, p.2, λ o q. passed_over _ _ _ _ _ _ q p.3)

pub returns-in-None-escape_of : goal.returns-in-None-escape_of
returns-in-None-escape_of c =
    let p = c.in-Some.ensures in
    let no_digit : (48 ≤ c.in-Some.b) × (c.in-Some.b ≤ 55) → ⊥ = λ w. omega arith in
    rw p.0 (Steps.decode_no_letter _ _ no_digit c.in-None-escape_of.ensures)

pub returns-in-None : goal.returns-in-None
unfolding decode
returns-in-None c =
    let p = c.in-None.ensures in
    rw p
