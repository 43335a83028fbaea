-- `mended_lines::field_length` meets its contract.
use mathlib.Core.Path.{sym}
use Rattle.field_bounds.proofs.WholeFields.{split-none}
use Rattle.mended_lines.proofs.MendedLine.{field_nil}
use Rattle.mended_lines.proofs.field_length.Goals as goal

pub returns-in-Some : goal.returns-in-Some
returns-in-Some c =
    let p = c.in-Some.ensures in
    sym p.1

pub returns-in-None : goal.returns-in-None
returns-in-None c =
    let p = c.in-None.ensures in
    field_nil _ (split-none _ p)
