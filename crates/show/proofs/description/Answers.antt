-- `show::description` meets its contract: the part's ends are those of the line in its file, from the file's start on.
use native.Mathlib.Omega.{arith}
use Rattle.show.proofs.ShownParts.{shown_part}
use Rattle.show.proofs.description.Goals as goal

pub overflow_add-result-2 : goal.overflow_add-result-2
overflow_add-result-2 c =
    let e = rw c.file.ensures at c.line_end-end.ensures in
    omega (arith, e)

pub returns : goal.returns
returns c = rw c.line_end-end.ensures (shown_part _ _ _ _ c.file_start-start.ensures c.file.ensures)
