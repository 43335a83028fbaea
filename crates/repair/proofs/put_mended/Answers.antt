-- `repair::put_mended` meets its contract: what is measured is tested for room (`text_full`, `records_full`), and then stored (`both-fit`).
use native.Mathlib.Omega.{arith}
use Rattle.repair.proofs.Delivering.{text_full, records_full, both-fit}
use Rattle.repair.proofs.put_mended.Goals.{then-need-text-via-then-need-text, then-need-text-via-else-need-text+then-need-most}
use Rattle.repair.proofs.put_mended.Goals as goal

pub returns-then-need-text : goal.returns-then-need-text
returns-then-need-text c =
    let need = c.measure-need.ensures in elim c.then-need-text.branch [
      | then-need-text-via-then-need-text w ↦ text_full _ _ _ (omega (arith, need.0, w.if-need-text.true))
      | then-need-text-via-else-need-text+then-need-most w ↦ records_full _ _ _ (omega (arith, need.1, w.if-need-most.true))
    ]

pub returns : goal.returns
returns c =
    let stored = c.mend_lines in
    let records-fit = c.if-need-most.false in
    let text-fits = c.if-need-text.false in
    let need = c.measure-need.ensures in
    both-fit _ _ _ (omega (arith, need.0, text-fits)) (omega (arith, need.1, records-fit)) _ _ stored.result stored.ensures _ _ need.0 need.1
