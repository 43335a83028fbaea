-- `files::are_good_ends` meets its contract: what is left to be tested are the ends from the index on.
use mathlib.Core.Path.{◌∙◌, sym}
use native.Mathlib.Omega.{arith}
use Rattle.files.proofs.Parts.{ends_many, ends-start, ends_done, ends_fall, ends_pass, ends_next}
use Rattle.files.proofs.are_good_ends.Goals as goal
use Rattle.files.proofs.are_good_ends.Goals.{then-end-from-via-then-end-from, then-end-from-via-else-end-from+then-end-db}

pub returns-then-ends-gt-MOST_FILES : goal.returns-then-ends-gt-MOST_FILES
returns-then-ends-gt-MOST_FILES c = sym (ends_many c.args.db.now c.args.ends.now (omega arith))

pub loop-end-init : goal.loop-end-init
loop-end-init c = ends-start c.args.db.now c.args.ends.now (omega arith)

pub returns-then-end-from : goal.returns-then-end-from
returns-then-end-from c = elim c.then-end-from.branch [
  | then-end-from-via-then-end-from w ↦ sym (c.loop-end.invariant ∙ ends_fall _ _ _ _ (omega arith) (omega (arith, w.if-end-from.true)))
  | then-end-from-via-else-end-from+then-end-db w ↦
      sym (c.loop-end.invariant ∙ ends_pass _ _ _ _ (omega arith) (omega (arith, w.if-end-from.false)) (omega (arith, w.if-end-db.true)))
]

pub loop-end-preserved : goal.loop-end-preserved
loop-end-preserved c = c.loop-end.invariant ∙ ends_next _ _ _ _ (omega arith) (omega arith) (omega arith)

pub returns : goal.returns
returns c = sym (c.loop-end.invariant ∙ ends_done _ _ _ _ (omega arith))
