-- `escapes::octal_escape` meets its contract: up to the place `i`, as many digits of the escape are read as the loop has counted, with the value v.
use native.Mathlib.Omega.{arith}
use Rattle.escapes.proofs.OctalDigits.{escape_first, escape_small, escape_more, escape_other, escape_end, escape_large, escape_byte}
use Rattle.escapes.proofs.octal_escape.Goals as goal

pub loop-init : goal.loop-init
loop-init c = rw c.from-v.ensures (escape_first _ _ _ c.requires)

pub overflow_mul-v : goal.overflow_mul-v
overflow_mul-v c = let small = escape_small _ _ _ _ _ _ c.loop.invariant in omega arith

pub overflow_add-v : goal.overflow_add-v
overflow_add-v c = let small = escape_small _ _ _ _ _ _ c.loop.invariant in omega arith

pub loop-preserved : goal.loop-preserved
loop-preserved c =
    let p = c.in-Some.ensures in
    rw c.from.ensures (escape_more _ _ _ _ _ _ c.loop.invariant _ _ p.0 (omega arith) p.1 p.2 p.3 (omega arith) (omega arith))

pub returns-in_default : goal.returns-in_default
returns-in_default c =
    let p = c.in-Some.ensures in
    escape_other _ _ _ _ _ _ c.loop.invariant _ _ p.0 (omega arith) (λ w. omega arith)

pub returns-in_default-2 : goal.returns-in_default-2
returns-in_default-2 c =
    let p = c.in-Some.ensures in
    escape_other _ _ _ _ _ _ c.loop.invariant _ _ p.0 (omega arith) (λ w. omega arith)

pub returns-in-None : goal.returns-in-None
returns-in-None c =
    let p = c.in-None.ensures in
    escape_end _ _ _ _ _ _ c.loop.invariant p (omega arith)

pub returns-then-v-gt-OCTAL_LIMIT : goal.returns-then-v-gt-OCTAL_LIMIT
returns-then-v-gt-OCTAL_LIMIT c = escape_large _ _ _ _ _ _ c.loop.invariant (omega arith) (omega arith)

pub returns : goal.returns
returns c = escape_byte _ _ _ _ _ _ c.loop.invariant (omega arith) (omega arith)
