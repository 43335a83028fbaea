-- `batch::note_fields` meets its contract: what is left of the part, taken into the tables, gives the whole.
use native.Mathlib.Omega.{arith}
use Rattle.spec.specs.Chain.{placed}
use Rattle.batch.proofs.Noting.{notes_nothing, fields_on}
use Rattle.batch.proofs.note_fields.Goals as goal

pub loop-read-init : goal.loop-read-init
loop-read-init c = (omega arith, λ place file t rest. rest)

pub returns-in_default : goal.returns-in_default
unfolding placed
returns-in_default c place file =
    let q = c.in_default.ensures in
    let l = c.loop-read in
    l.invariant.1 place file l.tables (rw q (notes_nothing l.tables))

pub loop-read-smaller : goal.loop-read-smaller
loop-read-smaller c =
    let q = c.in-Some.ensures in
    omega arith

pub loop-read-preserved : goal.loop-read-preserved
loop-read-preserved c =
    let q = c.in-Some.ensures in
    let l = c.loop-read in
    let s = c.args.s.now in (
      q.4,
      λ place file t rest.
          l.invariant.1 place file t
          (fields_on l.tables _ t s l.at _ place file q.0 (c.note_field.ensures s l.at place file q.1) rest),
    )
