-- `mended_lines::after_line` meets its contract.
use native.Mathlib.Omega.{arith}
use Rattle.mended_lines.proofs.MendedLine.{own_newline, own_last}
use Rattle.mended_lines.proofs.after_line.Goals as goal

pub returns-then-end-db : goal.returns-then-end-db
returns-then-end-db c =
    let e = c.line_end-end.ensures in
    rw e (own_newline c.args.db.now c.args.at c.requires (omega arith))

pub returns-else-end-db : goal.returns-else-end-db
returns-else-end-db c =
    let e = c.line_end-end.ensures in
    rw e (own_last c.args.db.now c.args.at c.requires (omega arith))
