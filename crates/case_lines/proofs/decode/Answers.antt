use native.Mathlib.Omega.{arith}
use borrow.Author.Tests.{ltb-true, leb-true}
use Rattle.case_lines.proofs.LineSteps.{bytes_pair, bytes-plain, bytes-short}
use Rattle.case_lines.proofs.decode.Goals as goal
use Rattle.case_lines.proofs.decode.Goals.{in_default-via-then-rest-lt2, in_default-via-in-len2-up+else-b-eq92}

pub returns-in-len2-up : goal.returns-in-len2-up
returns-in-len2-up c =
    rw (c.in_ok-b.ensures.cases.0, c.if-b-eq92.true, c.hex_digit-high.ensures.0, c.hex_digit-low.ensures.0)
    (bytes_pair c.in_ok-b.rest.now c.in-len2-up.len_at_least)

pub returns-in_default : goal.returns-in_default
returns-in_default c =
    let s = c.in_ok-b in
    rw s.ensures.cases.0 (elim c.in_default.branch [
      | in_default-via-then-rest-lt2 w ↦ bytes-short s.b.now s.rest.now (omega (arith, ltb-true, leb-true))
      | in_default-via-in-len2-up+else-b-eq92 w ↦ bytes-plain s.b.now s.rest.now w.if-b-eq92.false
    ])
