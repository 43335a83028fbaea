-- `escapes::after_caret` meets its contract: 127 for a question mark, the byte modulo 32 for those above it.
use native.Mathlib.Omega.{arith}
use Prim.Native.Nat.{◌<◌}
use Rattle.laws.proofs.FieldSteps as Steps
use Rattle.spec.specs.Strings.{decode}
use Rattle.field_bounds.proofs.FieldBytes.{passed_over}
use Rattle.escapes.proofs.after_caret.Goals as goal

pub returns-in-63 : goal.returns-in-63
returns-in-63 c =
    let p = c.in-Some.ensures in
    let control = Steps.control_127 _ c.in-63.is in
    (rw (p.0, ← control) (Steps.decode-control _ _ (omega arith, omega arith)), p.1, p.2, λ o q. passed_over _ _ _ _ _ _ q p.3)

pub returns-in-64-to-126 : goal.returns-in-64-to-126
returns-in-64-to-126 c =
    let p = c.in-Some.ensures in
    let above : 63 < c.in-Some.b = omega arith in
    (rw (p.0, ← Steps.control-mod _ above) (Steps.decode-control _ _ (omega arith, omega arith)), p.1, p.2, λ o q. passed_over _ _ _ _ _ _ q p.3)

pub returns-in_default : goal.returns-in_default
returns-in_default c =
    let p = c.in-Some.ensures in
    rw p.0 (Steps.decode_no_control _ _ (λ w. omega arith))

pub returns-in_default-2 : goal.returns-in_default-2
returns-in_default-2 c =
    let p = c.in-Some.ensures in
    rw p.0 (Steps.decode_no_control _ _ (λ w. omega arith))

pub returns-in-None : goal.returns-in-None
unfolding decode
returns-in-None c =
    let p = c.in-None.ensures in
    rw p
