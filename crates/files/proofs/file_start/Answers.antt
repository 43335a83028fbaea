-- `files::file_start` meets its contract.
use mathlib.Core.Path.{sym}
use native.Mathlib.Omega.{arith}
use Rattle.files.proofs.Parts.{start_first, start-next, start_none}
use Rattle.files.proofs.file_start.Goals as goal

pub returns-then-k-eq0 : goal.returns-then-k-eq0
returns-then-k-eq0 c =
    rw c.if-k-eq0.true (sym (start_first _ _))

pub returns-then-i-ends : goal.returns-then-i-ends
returns-then-i-ends c =
    sym (start-next c.args.db.now c.args.ends.now _ _ (omega arith))

pub returns : goal.returns
returns c =
    sym (start_none c.args.db.now c.args.ends.now _ (omega arith))
