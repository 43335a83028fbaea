-- `fields::read_digits` meets its contract: the digits up to the place `stop` are `passed`, with the value `v` in the base.
use native.Mathlib.Omega.{arith}
use mathlib.Core.Path.{◌∙◌, sym}
use Rattle.fields.proofs.Numbers.{counted_none, counted_long, counted_not, counted_on, counted-room}
use Rattle.fields.proofs.Numbers.{counted_empty, counted_large, counted-good}
use mathlib.Core.Logic.{⊎_elim}
use Rattle.fields.proofs.read_digits.Goals.{then-passed-eq-DIGIT_LIMIT-via-then-passed-eq-DIGIT_LIMIT}
use Rattle.fields.proofs.read_digits.Goals.{then-passed-eq-DIGIT_LIMIT-via-else-passed-eq-DIGIT_LIMIT+then-not-is_digit}
use Rattle.fields.proofs.read_digits.Goals as goal

pub loop-b-init : goal.loop-b-init
loop-b-init c = counted_none _ _ _ c.requires

pub overflow_mul-v : goal.overflow_mul-v
overflow_mul-v c =
    let p = c.in-Some.ensures in
    let inv = c.loop-b.invariant in
    let digit = sym c.is_digit.ensures ∙ c.if-not-is_digit.false in
    let room = counted-room _ _ _ _ _ _ inv _ _ p.0 p.3 digit (omega arith) in
    omega (arith, room)

pub overflow_add-v : goal.overflow_add-v
overflow_add-v c =
    let p = c.in-Some.ensures in
    let inv = c.loop-b.invariant in
    let digit = sym c.is_digit.ensures ∙ c.if-not-is_digit.false in
    let room = counted-room _ _ _ _ _ _ inv _ _ p.0 p.3 digit (omega arith) in
    omega (arith, room)

pub loop-b-preserved : goal.loop-b-preserved
loop-b-preserved c =
    let p = c.in-Some.ensures in
    let inv = c.loop-b.invariant in
    let digit = sym c.is_digit.ensures ∙ c.if-not-is_digit.false in
    rw c.from.ensures (counted_on _ _ _ _ _ _ inv _ _ p.0 p.3 digit (omega arith))

pub returns-in-None-2 : goal.returns-in-None-2
returns-in-None-2 c =
    let p = c.in-None.ensures in
    let q = counted-good _ _ _ _ _ _ c.loop-b.invariant p (λ e. omega arith) (omega arith) in
    ((q.0, q.1), c.loop-b.invariant.passed, c.loop-b.invariant.few)

pub returns-then-passed-eq-DIGIT_LIMIT : goal.returns-then-passed-eq-DIGIT_LIMIT
returns-then-passed-eq-DIGIT_LIMIT c =
    let p = c.in-Some.ensures in
    let inv = c.loop-b.invariant in
    elim c.then-passed-eq-DIGIT_LIMIT.branch [
      | then-passed-eq-DIGIT_LIMIT-via-then-passed-eq-DIGIT_LIMIT w ↦ (counted_long _ _ _ _ _ _ inv _ _ p.0 (omega arith), inv.passed, inv.few)
      | then-passed-eq-DIGIT_LIMIT-via-else-passed-eq-DIGIT_LIMIT+then-not-is_digit w ↦
          let other = sym w.is_digit.ensures ∙ w.if-not-is_digit.true in
          (counted_not _ _ _ _ _ _ inv _ _ p.0 other, inv.passed, inv.few)
    ]

pub returns-in-None : goal.returns-in-None
returns-in-None c =
    let p = c.in-None.ensures in
    let inv = c.loop-b.invariant in
    let bad = ⊎_elim (λ e. counted_empty _ _ _ _ _ _ inv p e) (λ w. counted_large _ _ _ _ _ _ inv p w.1) c.if-v-gt-NUMBER_LIMIT.either in
    (bad, inv.passed, inv.few)
