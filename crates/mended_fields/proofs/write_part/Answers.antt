-- `mended_fields::write_part` meets its contract: a kept field is its text, and a colon if it takes one.
use mathlib.Core.Path.{refl, ◌∙◌, sym}
use mathlib.Core.List.{[], ◌∷◌, append-nil}
use native.Mathlib.Omega.{arith}
use Rattle.field_bounds.specs.Answers.{field_at}
use Rattle.field_bounds.proofs.LineBounds.{field_bound}
use Rattle.mended_fields.specs.Parts.{Put}
use Rattle.mended_fields.proofs.Storing.{put_nothing, put_then}
use Rattle.mended_fields.proofs.WrittenPieces.{written_none, written-some}
use Rattle.mended_fields.proofs.write_part.Goals as goal

pub returns-then-reason-ne-KEPT : goal.returns-then-reason-ne-KEPT
returns-then-reason-ne-KEPT c =
    let a = c.args in
    rw (written_none a.s.now a.at a.reason c.if-reason-ne-KEPT.true) (put_nothing _ _)

pub returns-then-not-takes_colon : goal.returns-then-not-takes_colon
returns-then-not-takes_colon c =
    let a = c.args in
    let t = sym c.takes_colon.ensures ∙ c.if-not-takes_colon.true in
    let w = written-some a.s.now a.at a.reason c.if-reason-ne-KEPT.false in
    let copied = c.copy_field-n.ensures in
    rw (w, t, append-nil (field_at a.s.now a.at)) (record { count = copied.0; stored = copied.1 })

pub overflow_add-result : goal.overflow_add-result
overflow_add-result c =
    let a = c.args in
    let n = c.copy_field-n.ensures.0 in
    omega (arith, field_bound a.s.now a.at)

pub returns : goal.returns
returns c =
    let a = c.args in
    let t = sym c.takes_colon.ensures ∙ c.if-not-takes_colon.false in
    let w = written-some a.s.now a.at a.reason c.if-reason-ne-KEPT.false in
    let copied = c.copy_field-n.ensures in
    let first : Put (field_at a.s.now a.at) a.text.now a.to _ _ = record { count = copied.0; stored = copied.1 } in
    rw (w, t) (put_then _ (58 ∷ []) _ _ _ _ _ _ first (record { count = refl; stored = c.put_after.ensures }))
