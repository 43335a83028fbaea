-- `files::file` meets its contract: each way out is the file of that number.
use mathlib.Core.Path.{refl, sym}
use native.Mathlib.Omega.{arith}
use Rattle.files.proofs.Parts.{file-none, file_empty, file-past, file-end, file_part}
use Rattle.files.proofs.file.Goals as goal
use Rattle.files.proofs.file.Goals.{then-to-from-via-then-to-from, then-to-from-via-else-to-from+then-from-db}

pub returns-then-i-ends : goal.returns-then-i-ends
returns-then-i-ends c =
    sym (file-none c.args.db.now c.args.ends.now _ (omega arith))

pub returns-then-to-from : goal.returns-then-to-from
returns-then-to-from c =
    let s = c.file_start-from.ensures in
    let db = c.args.db.now in
    let ends = c.args.ends.now in elim c.then-to-from.branch [
      | then-to-from-via-then-to-from w ↦ sym (file_empty db ends _ (omega arith) (omega (arith, s, w.if-to-from.true)))
      | then-to-from-via-else-to-from+then-from-db w ↦ sym (file-past db ends _ (omega arith) (omega (arith, s, w.if-from-db.true)))
    ]

pub returns-then-to-db : goal.returns-then-to-db
returns-then-to-db c =
    let s = c.file_start-from.ensures in
    file-end c.args.db.now c.args.ends.now _ (omega arith) _ _ s refl (omega arith)

pub returns : goal.returns
returns c =
    let s = c.file_start-from.ensures in
    file_part c.args.db.now c.args.ends.now _ (omega arith) _ _ s refl
