-- `escapes::text_byte` meets its contract: a backslash or a caret starts an escape, a byte 32..126 stands for itself.
use native.Mathlib.Omega.{arith}
use Rattle.laws.proofs.FieldSteps as Steps
use Rattle.escapes.proofs.TextSteps.{text_on}
use Rattle.field_bounds.proofs.FieldBytes.{passed_over}
use mathlib.Core.Path.{refl}
use Rattle.escapes.proofs.text_byte.Goals as goal

pub returns-in-92 : goal.returns-in-92
returns-in-92 c =
    let p = c.in-Some.ensures in
    text_on _ _ _ _ _ c.after_backslash.result (rw p.0 (Steps.decode-slash _ _ (omega arith))) p.1 p.3 refl c.after_backslash.ensures

pub returns-in-94 : goal.returns-in-94
returns-in-94 c =
    let p = c.in-Some.ensures in
    text_on _ _ _ _ _ c.after_caret.result (rw p.0 (Steps.decode-caret _ _ (omega arith))) p.1 p.3 refl c.after_caret.ensures

pub returns-in_default : goal.returns-in_default
returns-in_default c =
    let p = c.in-Some.ensures in
    rw p.0 (Steps.decode_odd _ _ (λ e. omega arith) (λ e. omega arith) (λ w. omega arith))

pub returns-in_default-2 : goal.returns-in_default-2
returns-in_default-2 c =
    let p = c.in-Some.ensures in
    rw p.0 (Steps.decode_odd _ _ (λ e. omega arith) (λ e. omega arith) (λ w. omega arith))

pub returns-in-32-to-126 : goal.returns-in-32-to-126
returns-in-32-to-126 c =
    let p = c.in-Some.ensures in
    (rw p.0 (Steps.decode-byte _ _ (λ e. omega arith) (λ e. omega arith) (omega arith, omega arith)), p.1, p.2, λ o q. passed_over _ _ _ _ _ _ q p.3)

pub returns-in-32-to-126-2 : goal.returns-in-32-to-126-2
returns-in-32-to-126-2 c =
    let p = c.in-Some.ensures in
    (rw p.0 (Steps.decode-byte _ _ (λ e. omega arith) (λ e. omega arith) (omega arith, omega arith)), p.1, p.2, λ o q. passed_over _ _ _ _ _ _ q p.3)

pub returns-in-None : goal.returns-in-None
returns-in-None c =
    let p = c.in-None.ensures in
    rw p Steps.decode_done
