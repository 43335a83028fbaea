-- `batch::note_chain` meets its contract: the lines that are left, taken into the tables, give the whole chain.
use mathlib.Core.Path.{◌≡◌}
use native.Mathlib.Omega.{arith}
use lib.ListN.{length}
use borrow.Author.Rules.{rules}
use Rattle.chain.proofs.WalkPlaces.{length_mapped}
use Rattle.spec.specs.Files.{files, contents}
use Rattle.chain.proofs.JoinedFields.{from_first, from_end}
use Rattle.batch.proofs.Noting.{notes_nothing, lines_on}
use Rattle.batch.proofs.note_chain.Goals as goal

pub loop-p-init : goal.loop-p-init
loop-p-init c t rest = rw (from_first _ _ _) rest

pub loop-p-preserved : goal.loop-p-preserved
loop-p-preserved c t rest =
    let l = c.loop-p in
    let a = c.args in
    let array : length a.c.lines ≡ 32 = search (rules, length_mapped) in
    l.invariant t
    (lines_on l.tables _ t _ a.c.lines a.c.count l.p-index _ _ (omega arith) (omega (arith, array)) c.file.ensures (c.note_line.ensures l.p-index _) rest)

pub returns : goal.returns
returns c =
    let l = c.loop-p in
    let a = c.args in
    let none = from_end (contents (files a.db.now a.ends.now)) a.c.lines a.c.count l.p-index (omega arith) in
    l.invariant l.tables (rw none (notes_nothing l.tables))
