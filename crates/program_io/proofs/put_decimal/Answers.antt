-- The fewest digits are those that are written.
use mathlib.Core.Path.{◌∙◌}
use native.Mathlib.Omega.{arith}
use Rattle.program_io.proofs.Texts.{digits_written, written-length}
use Rattle.program_io.proofs.put_decimal.Goals as goal

pub returns-clause-value : goal.returns-clause-value
returns-clause-value c =
    let d = c.decimal-k in
    let e = written-length _ _ d.ensures.len in
    (omega arith, c.put_bytes.ensures ∙ rw (d.ensures.digits, digits_written _ _ d.ensures.len))
