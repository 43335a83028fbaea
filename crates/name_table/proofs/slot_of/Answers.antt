-- `name_table::slot_of` meets its contract: the name at the place where halving ends is the text, or none is.
use mathlib.Core.Path.{◌∙◌, sym}
use Rattle.std.proofs.lemmas.Bool.Decides.{Decides-eqb}
use Rattle.std.proofs.lemmas.Slice.Eq.{slice_eq-Decides}
use Rattle.name_table.proofs.Laws.{in_order, slot_here, slot_none, slot_past, not_both}
use Rattle.name_table.proofs.slot_of.Goals as goal
use Rattle.name_table.proofs.slot_of.Goals.{else-at-count-via-then-at-count+else-eq, else-at-count-via-else-at-count}

pub text_of-requires-clause-j_in_bounds : goal.text_of-requires-clause-j_in_bounds
text_of-requires-clause-j_in_bounds c = in_order _ _ _ _ c.requires.table

pub returns-then-eq : goal.returns-then-eq
returns-then-eq c =
    let found = (slice_eq-Decides Decides-eqb _ _ _ c.eq.ensures).0 c.if-eq.true in
    slot_here _ _ _ _ _ _ c.place_in-at.ensures.0 c.if-at-count.true (sym found ∙ c.text_of.ensures)

pub returns-else-at-count : goal.returns-else-at-count
returns-else-at-count c =
    elim c.else-at-count.branch [
      | else-at-count-via-then-at-count+else-eq w ↦
          let found = (slice_eq-Decides Decides-eqb _ _ _ w.eq.ensures).1 in
          slot_none _ _ _ _ _ _ c.place_in-at.ensures.0 (λ e. not_both (found (sym (e ∙ sym w.text_of.ensures))) w.if-eq.false)
      | else-at-count-via-else-at-count w ↦ slot_past _ _ _ _ _ _ c.place_in-at.ensures.0 w.if-at-count.false
    ]
